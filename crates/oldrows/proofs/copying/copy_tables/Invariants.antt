use Rattle.std.proofs.Common.{drop}
use Rattle.oldrows.specs.inner.Copies.{IsOnItsWay, put_of_all}
use Rattle.oldrows.proofs.copying.copy_tables.Given as goal

abbrev pub invariant-loop-table : goal.invariant-loop-table
invariant-loop-table g l = IsOnItsWay (put_of_all l.tables) (put_of_all (drop l.table-index l.tables)) l.fn.from l.from l.fn.to l.to
