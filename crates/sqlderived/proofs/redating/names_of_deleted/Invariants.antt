use Rattle.std.proofs.Common.{◌≡◌, ◌++◌}
use Rattle.sqlderived.specs.Redates.{deleted_names}
use Rattle.sqlderived.proofs.redating.names_of_deleted.Given as goal

-- with those of the rows that are left, all of them
abbrev pub invariant-loop-row : goal.invariant-loop-row
invariant-loop-row l = l.names ++ deleted_names l.row-iterator.rest.items ≡ deleted_names l.fn.rows
