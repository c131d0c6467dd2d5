use Rattle.std.proofs.Common.{◌≡◌, ℕ, List, ◌++◌, Option, map, vec_len}
use Rattle.jsonobjects.specs.{Item.item_value, Members.members_with}
use Rattle.serde_json.specs.{Data.Data, View.members_view}
use Rattle.jsonobjects.proofs.item.object.Given as goal

abbrev pub invariant-members : goal.invariant-members
invariant-members l = record {
  done : List (List ℕ × Option Data);
  all : map (λ m. (m.0.now, item_value m.1)) l.fn.members.items ≡ map (λ m. (m.0.now, item_value m.1)) l.members.items ++ done;
  built : members_view l.built.entries ≡ members_with done;
}

abbrev pub decreases-members : goal.decreases-members
decreases-members l = vec_len l.members
