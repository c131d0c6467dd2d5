use Rattle.std.proofs.Common.{◌≡◌, ◌++◌, map, take}
use Rattle.facts.specs.Lists.{kept}
use Rattle.facts.proofs.lists.amended_names.Given as goal

abbrev pub invariant-loop-item : goal.invariant-loop-item
invariant-loop-item g l = l.names.items ≡ kept g.T.Named.name l.old l.removed ++ map g.T.Named.name (take l.item-index l.added)
