use Rattle.std.proofs.Common.{◌≡◌, map, take}
use Rattle.serde_json.specs.View.{view}
use Rattle.rdap.specs.Bodies.{host_object}
use Rattle.rdap.proofs.domain.hosts_value.Given as goal

abbrev pub invariant-loop-host : goal.invariant-loop-host
invariant-loop-host l = map view l.list.items ≡ map host_object (take l.host-index l.hosts)
