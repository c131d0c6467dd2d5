use Rattle.std.proofs.Common.{◌≡◌, drop}
use Rattle.sqlterms.specs.Terms.{ids_behind, ids_in}
use Rattle.sqlterms.proofs.ids.ids_of.Given as goal

abbrev pub invariant-loop-row : goal.invariant-loop-row
invariant-loop-row l = ids_behind l.ids (drop l.row-index l.rows) ≡ ids_in l.rows
