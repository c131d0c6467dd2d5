use Rattle.sqlbook.proofs.BeginningLemmas.{steady_adopted}
use Rattle.sqlbook.proofs.book.over_rows.Goals as goal

pub invariant_of-over : goal.invariant_of-over
invariant_of-over g c = record { steady = steady_adopted c.requires.0 c.args.store c.requires.1 }
