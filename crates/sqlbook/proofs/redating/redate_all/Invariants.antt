use Rattle.sqlbook.proofs.Words.{HasChanged, MeansSame}
use Rattle.sqlbook.proofs.redating.redate_all.Given as goal

abbrev pub invariant-loop-name : goal.invariant-loop-name
invariant-loop-name g l = HasChanged MeansSame l.fn.store l.store
