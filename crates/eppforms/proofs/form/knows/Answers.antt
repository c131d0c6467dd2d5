use Rattle.std.proofs.Common.{sym, ◌∙◌}
use Rattle.serde_json.specs.View.{view}
use Rattle.eppforms.specs.Form.{knows, is_field}
use Rattle.eppforms.proofs.Members.{all-members}
use Rattle.eppforms.proofs.form.knows.Goals as goal

pub returns-in-Some : goal.returns-in-Some
unfolding knows
returns-in-Some c =
    let found = all-members (λ m. is_field c.args.fields.now c.args.section m.0 m.1)
    (view c.args.part.now) c.in-Some.members.now.entries c.in-Some.ensures in
    c.are_fields.ensures ∙ sym found
