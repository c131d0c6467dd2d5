-- What `cmd`, `obj` and `op` say (RFC 5730, 2.9). Which members a command has is the table itself, `FORMS`.
use Rattle.std.specs.Prelude.{ℕ, Bool, true, false, List, [], ◌∷◌, Option, map, codes, find, bytes_eq}
use Rattle.std.specs.Borrow.{Bor}
use Rattle.objects.specs.declared.roid.ObjectKind.{ObjectKind}
use Rattle.objects.specs.declared.roid.ObjectKind.TheVariants.{Contact, Domain, Host}
use Rattle.protocol.specs.Texts.{object_text}
use Rattle.eppforms.specs.declared.table.Choice.{Choice}
use Rattle.eppforms.specs.declared.table.Field.{Field}
use Rattle.eppforms.specs.declared.table.TheConstants.{FORMS}
use Rattle.eppforms.specs.declared.table.Verb.{Verb}
use Rattle.eppforms.specs.declared.table.Verb.TheVariants as verbs
use Rattle.eppforms.specs.declared.table.Op.{Op}
use Rattle.eppforms.specs.declared.table.Op.TheVariants as ops

abbrev pub verb_text : Verb → List ℕ
verb_text verbs.Hello = codes "hello"
verb_text verbs.Login = codes "login"
verb_text verbs.Logout = codes "logout"
verb_text verbs.Balance = codes "balance"
verb_text verbs.Check = codes "check"
verb_text verbs.Info = codes "info"
verb_text verbs.Create = codes "create"
verb_text verbs.Delete = codes "delete"
verb_text verbs.Update = codes "update"
verb_text verbs.Renew = codes "renew"
verb_text verbs.Restore = codes "restore"
verb_text verbs.Poll = codes "poll"
verb_text verbs.Transfer = codes "transfer"

-- what has to change something
abbrev pub is_update : Verb → Bool
is_update verbs.Update = true
is_update _ = false

abbrev pub op_text : Op → List ℕ
op_text ops.Request = codes "request"
op_text ops.Report = codes "report"
op_text ops.Query = codes "query"
op_text ops.Approve = codes "approve"
op_text ops.Reject = codes "reject"
op_text ops.Cancel = codes "cancel"
op_text ops.Req = codes "req"
op_text ops.Ack = codes "ack"

abbrev pub object_named : List ℕ → Option ObjectKind
object_named text = find (λ x. bytes_eq (object_text x) text) (Contact ∷ Domain ∷ Host ∷ [])

-- the form of a command: what chooses it, and its members
abbrev pub CommandForm : Type 0
CommandForm = Choice × List Field

-- as the code holds one
abbrev pub plain : Choice × Bor (List Field) → CommandForm
plain form = (form.0, form.1.now)

-- those of the table
abbrev pub command_forms : List CommandForm
command_forms = map (λ form. (form.0, form.1.now)) FORMS.now
