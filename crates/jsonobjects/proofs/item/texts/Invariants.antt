use Rattle.std.proofs.Common.{◌≡◌, map, take}
use Rattle.serde_json.specs.{Data.string, View.view}
use Rattle.jsonobjects.proofs.item.texts.Given as goal

abbrev pub invariant-loop-item : goal.invariant-loop-item
invariant-loop-item g l = map view l.list.items ≡ map string (map g.T.Shown.shown (take l.item-index l.items))
