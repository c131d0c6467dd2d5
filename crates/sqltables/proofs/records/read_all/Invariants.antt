use Rattle.std.proofs.Common.{◌≡◌, List, map, take}
use Rattle.sqltables.proofs.records.read_all.Given as goal

abbrev pub invariant-rows : goal.invariant-rows
invariant-rows g l = (xs : List _) → l.rows ≡ map g.R.Record.shown xs → l.records ≡ take l.row-index xs
