use Rattle.std.proofs.Common.{◌≡◌, ◌++◌, map}
use Rattle.takeover.specs.Graces.{with_grace_end}
use Rattle.takeover.proofs.graces.with_grace_ends.Given as goal

-- with those that are left, all of them
abbrev pub invariant-loop-row : goal.invariant-loop-row
invariant-loop-row l = l.ended ++ map (with_grace_end l.days) l.row-iterator.rest.items ≡ map (with_grace_end l.days) l.fn.rows
