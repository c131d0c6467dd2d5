use Rattle.std.proofs.Common.{◌≡◌, map, drop}
use Rattle.serde_json.specs.View.{view}
use Rattle.eppcommands.{specs.Reading.all_in, proofs.Lists.after}
use Rattle.eppcommands.proofs.reading.all_in.Given as goal

abbrev pub invariant-loop-item : goal.invariant-loop-item
invariant-loop-item g l =
    all_in (g.R.Reads.read l.reader) (map view l.items) ≡ after l.all (all_in (g.R.Reads.read l.reader) (map view (drop l.item-index l.items)))
