use Rattle.std.proofs.Common.{◌≡◌, drop}
use Rattle.policy.specs.Reading.{first_twice}
use Rattle.policy.proofs.registrar.first_twice.Given as goal

-- the first that stands twice is among the ids that are left
abbrev pub invariant-loop-i : goal.invariant-loop-i
invariant-loop-i l = first_twice (drop l.i l.ids) ≡ first_twice l.ids
