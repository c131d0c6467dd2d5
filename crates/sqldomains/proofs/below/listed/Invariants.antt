use Rattle.std.proofs.Common.{◌≡◌, ◌++◌}
use Rattle.std.specs.FinMap.{keys}
use Rattle.sqldomains.proofs.below.listed.Given as goal

-- the names so far and those that are left
abbrev pub invariant-loop-name : goal.invariant-loop-name
invariant-loop-name l = l.list ++ l.name-iterator ≡ keys l.fn.names
