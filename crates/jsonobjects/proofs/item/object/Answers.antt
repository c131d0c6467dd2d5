use Rattle.std.proofs.Common.{◌≡◌, ◌∙◌, ◌∷◌, Some, ap, sym, true, rules}
use Rattle.std.specs.Prelude.{option_map}
use Rattle.serde_json.specs.View.{view}
use Rattle.jsonobjects.specs.{Item.item_value, Members.{are_in_order, members_with, with_some}}
use Rattle.jsonobjects.proofs.Built.{seen, popped, put_next}
use Rattle.jsonobjects.proofs.item.object.Goals as goal

pub members-preserved-in-Continue-branch-3 : goal.members-preserved-in-Continue-branch-3
members-preserved-in-Continue-branch-3 c =
    let g = c.members.invariant in
    let item = c.in-Some.item in
    let d = view c.in-Some-2.value in
    let name = c.in-Some.name.now in
    let said : item_value item ≡ Some d = sym c.in_ok-value.ensures ∙ ap (option_map view) c.in-Some-2.is in
    let all = popped (seen c.args.members.items) c.members.members.items c.pop.new.self.items c.in-Some.name item g.done g.all c.in-Some.ensures.items in
    let order : are_in_order (seen c.args.members.items) ≡ true = search rules in
    record {
      done = (name, item_value item) ∷ g.done;
      all = all;
      built = c.in_ok-put.ensures.ok ∙ put_next (seen c.pop.new.self.items) g.done name (item_value item) d _ (rw all at order) g.built
          ∙ ap (λ o. with_some name o (members_with g.done)) (sym said);
    }
