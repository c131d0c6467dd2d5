use Rattle.std.proofs.Common.{◌≡◌, ◌++◌, true, drop}
use Rattle.sqlderived.proofs.Words.{flat_map, Reads}
use Rattle.sqlderived.proofs.joining.each_of.Given as goal

-- with what those that are left give, what all of them do
abbrev pub invariant-loop-thing : goal.invariant-loop-thing
invariant-loop-thing g l =
    Reads l.fn.store l.store
    × (l.store.is_clean ≡ true → l.all ++ flat_map (g.W.Way.rows l.way l.fn.store.content) (drop l.thing-index l.things) ≡ flat_map (g.W.Way.rows l.way l.fn.store.content) l.things)
