use Rattle.std.proofs.Common.{sym}
use Rattle.serde_json.specs.View.{view}
use Rattle.eppforms.proofs.Forms.{form_in_of}
use Rattle.eppforms.proofs.form.form_in.Goals as goal

pub returns : goal.returns
returns c = rw c.form_found.ensures (sym (form_in_of (λ members. members.now) c.args.forms.now (view c.args.value.now)))
