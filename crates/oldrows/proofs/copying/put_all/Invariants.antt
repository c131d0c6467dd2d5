use Rattle.std.proofs.Common.{drop}
use Rattle.oldrows.specs.inner.Copies.{IsToPut}
use Rattle.oldrows.proofs.copying.put_all.Given as goal

abbrev pub invariant-loop-row : goal.invariant-loop-row
invariant-loop-row g l = IsToPut g.R.Copied.table l.rows (drop l.row-index l.rows) l.fn.to l.to
