use Rattle.std.proofs.Common.{◌≡◌, ◌++◌, drop}
use Rattle.concerns.specs.Names.{superordinates}
use Rattle.concerns.proofs.given.with_above.Given as goal

abbrev pub invariant-loop-host : goal.invariant-loop-host
invariant-loop-host l = l.names ++ superordinates (drop l.host-index l.hosts) ≡ l.fn.names ++ superordinates l.hosts
