use Rattle.std.proofs.Common.{◌≡◌}
use Rattle.registry.specs.Opening.{openings}
use Rattle.registry.proofs.opening.openings.Given as goal

abbrev pub invariant-loop-place : goal.invariant-loop-place
invariant-loop-place l = l.changes ≡ openings l.place
