use Rattle.std.proofs.Common.{sym, ◌∙◌}
use Rattle.serde_json.specs.View.{view}
use Rattle.eppforms.specs.Kind.{is_string}
use Rattle.eppforms.proofs.Items.{all-found}
use Rattle.eppforms.proofs.kind.Kind.has_type.Goals as goal

pub returns-in-Some : goal.returns-in-Some
returns-in-Some c =
    let found = all-found is_string (view c.args.value.now) c.in-Some.items.now.items c.in-Some.ensures in
    rw c.in-Texts.is (rw c.deref.ensures.value at c.all_texts.ensures ∙ sym found)
