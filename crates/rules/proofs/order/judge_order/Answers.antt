use Rattle.std.specs.Option.{option_copied}
use Rattle.rules.proofs.OrderLemmas.{answers-lawfully}
use Rattle.rules.proofs.order.judge_order.Goals as goal

pub returns-clause-laws : goal.returns-clause-laws
returns-clause-laws c = answers-lawfully c.args.order.now (option_copied c.args.object) c.code_on.result c.code_on.ensures
