use Rattle.std.proofs.Common.{◌≡◌, drop}
use Rattle.sqlterms.specs.Terms.{all_dated, dated_behind}
use Rattle.sqlterms.proofs.dated.all_dated.Given as goal

abbrev pub invariant-loop-row : goal.invariant-loop-row
invariant-loop-row l = dated_behind l.tables (drop l.row-index l.rows) ≡ all_dated l.rows
