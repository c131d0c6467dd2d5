use Rattle.std.proofs.Common.{◌≡◌, ◌++◌}
use Rattle.sqlobjects.specs.Objects as spec
use Rattle.sqlobjects.proofs.hosts.texts_of.Given as goal

-- those of the rows that are left make the others whole
abbrev pub invariant-loop-row : goal.invariant-loop-row
invariant-loop-row l = l.texts ++ spec.texts_of l.row-iterator.rest.items ≡ spec.texts_of l.fn.rows
