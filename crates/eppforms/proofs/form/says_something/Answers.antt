use Rattle.std.proofs.Common.{sym, ◌∙◌}
use Rattle.std.specs.Prelude.{not}
use Rattle.serde_json.specs.View.{view}
use Rattle.eppforms.specs.Form.{says_something, is_empty_list}
use Rattle.eppforms.proofs.Members.{any-members}
use Rattle.eppforms.proofs.form.says_something.Goals as goal

pub returns-in-Some : goal.returns-in-Some
unfolding says_something
returns-in-Some c =
    let found = any-members (λ m. not (is_empty_list m.1)) (view c.args.part.now) c.in-Some.members.now.entries c.in-Some.ensures in
    c.any_says.ensures ∙ sym found
