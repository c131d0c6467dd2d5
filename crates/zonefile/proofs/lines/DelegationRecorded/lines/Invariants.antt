use Rattle.std.proofs.Common.{◌≡◌, take}
use Rattle.std.specs.List.{flat_map}
use Rattle.zonefile.specs.Lines as lines
use Rattle.zonefile.proofs.lines.DelegationRecorded.lines.Given as goal

abbrev pub invariant-loop-host : goal.invariant-loop-host
invariant-loop-host l = l.text.items ≡ flat_map (lines.ns_line l.self.name l.ttl) (take l.host-index l.self.hosts)
