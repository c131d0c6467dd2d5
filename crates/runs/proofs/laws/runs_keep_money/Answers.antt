use Rattle.runs.proofs.MoneyLemmas.{runs-keep-money, runs-keep-registries}
use Rattle.runs.proofs.laws.runs_keep_money.Goals as goal

pub returns : goal.returns
returns c = record { registries = runs-keep-registries; money = runs-keep-money }
