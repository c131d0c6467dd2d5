use Rattle.model.proofs.MoneyLaws.{money-follows-over}
use Rattle.model.proofs.laws.money_follows_over_calls.Goals as goal

pub returns : goal.returns
returns c = money-follows-over
