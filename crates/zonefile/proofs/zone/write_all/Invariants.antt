use Rattle.std.proofs.Common.{drop}
use Rattle.std.specs.List.{flat_map}
use Rattle.zonefile.proofs.WriteLemmas.{Written}
use Rattle.zonefile.proofs.zone.write_all.Given as goal

-- what was written and the rest make the text
abbrev pub invariant-loop-item : goal.invariant-loop-item
invariant-loop-item g l =
    Written (g.W.Write.contents l.fn.writer) (g.W.Write.contents l.writer) (flat_map (g.T.Recorded.text l.ttl) (drop l.item-index l.items)) (flat_map (g.T.Recorded.text l.ttl) l.items)
