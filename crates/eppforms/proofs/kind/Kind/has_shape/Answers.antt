use Rattle.std.proofs.Common.{sym, ◌∙◌}
use Rattle.serde_json.specs.View.{view}
use Rattle.eppforms.specs.Kind.{text_shaped}
use Rattle.eppforms.proofs.Items.{all-found}
use Rattle.eppforms.proofs.kind.Kind.has_shape.Goals as goal

pub returns-in-Some : goal.returns-in-Some
returns-in-Some c =
    let found = all-found (text_shaped c.in-Texts.shape) (view c.args.value.now) c.in-Some.items.now.items c.in-Some.ensures in
    rw c.in-Texts.is (rw c.deref.ensures.value at c.all_shaped.ensures ∙ sym found)
