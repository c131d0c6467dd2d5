-- A JSON value against a table of forms: which form it chooses, and the first fault of its members (RFC 5730, 3).
use Rattle.std.specs.Prelude.{ℕ, ◌&&◌, ◌||◌, ◌==◌, Bool, true, not, if◌then◌else◌, List, [], ◌∷◌, length, find, Option, Some, None, is_some, is_none, Result, Ok, Err, ok_or, bytes_eq, ⊤}
use Rattle.std.specs.List.{list_all, list_any}
use Rattle.serde_json.specs.Data.{Data, Members, no_members, member}
use Rattle.serde_json.specs.Find.{as_object}
use Rattle.objects.specs.declared.roid.ObjectKind.{ObjectKind}
use Rattle.protocol.specs.declared.form.FormFault.{FormFault}
use Rattle.protocol.specs.declared.form.FormFault.TheVariants.{SyntaxError, UnknownCommand, ParameterMissing, ParameterRange, ParameterSyntax}
use Rattle.eppforms.specs.declared.member.Member.TheVariants as members
use Rattle.eppforms.specs.declared.member.Section.{Section}
use Rattle.eppforms.specs.declared.member.Section.TheVariants.{Top, Postal, Add, Rem, Chg, ChgPostal}
use Rattle.eppforms.specs.declared.kind.Kind.{Kind}
use Rattle.eppforms.specs.declared.table.Choice.{Choice}
use Rattle.eppforms.specs.declared.table.CommandKind.{CommandKind}
use Rattle.eppforms.specs.declared.table.Field.{Field}
use Rattle.eppforms.specs.Kind.{some_and, of_items, has_type, in_range, has_shape}
use Rattle.eppforms.specs.Member.{member_text, is_section, word_at, part_at, value_of}
use Rattle.eppforms.specs.declared.table.Op.{Op}
use Rattle.eppforms.specs.Table.{CommandForm, command_forms, verb_text, op_text, is_update}
use Rattle.protocol.specs.Texts.{object_text}

-- one step after another, up to the first fault
infixl 10 ◌>>=◌
abbrev pub ◌>>=◌ : {A B : Type 0} → Result A FormFault → (A → Result B FormFault) → Result B FormFault
(Ok x) >>= f = f x
(Err code) >>= f = Err code

abbrev pub refuse_unless : Bool → FormFault → Result ⊤ FormFault
refuse_unless holds code = if holds then Ok tt else Err code

-- ---- the form

-- `cmd` is in a form
abbrev pub is_known : {M : Type 0} → List (Choice × M) → List ℕ → Bool
is_known forms cmd = list_any (λ form. bytes_eq (verb_text form.0.cmd) cmd) forms

-- its forms have an `obj`
abbrev pub takes_object : {M : Type 0} → List (Choice × M) → List ℕ → Bool
takes_object forms cmd = list_any (λ form. bytes_eq (verb_text form.0.cmd) cmd && is_some form.0.object) forms

-- `obj` says the kind of object, where there has to be one
abbrev pub says_object : Option ObjectKind → Option (List ℕ) → Bool
says_object None obj = true
says_object (Some object) obj = some_and (bytes_eq (object_text object)) obj

-- `op` says the operation, where the form has one
abbrev pub is_for : Option Op → Option (List ℕ) → Bool
is_for None op = true
is_for (Some the_op) op = some_and (bytes_eq (op_text the_op)) op

-- `cmd`, `obj` and `op` say the form
abbrev pub is_chosen : Choice → List ℕ → Option (List ℕ) → Option (List ℕ) → Bool
is_chosen choice cmd obj op = bytes_eq (verb_text choice.cmd) cmd && (says_object choice.object obj && is_for choice.op op)

-- the first of which that is so
abbrev pub chosen : {M : Type 0} → List (Choice × M) → List ℕ → Option (List ℕ) → Option (List ℕ) → Option (Choice × M)
chosen forms cmd obj op = find (λ form. is_chosen form.0 cmd obj op) forms

-- the form that `cmd`, `obj` and `op` choose, whatever its members are
unfoldable pub form_in : {M : Type 0} → List (Choice × M) → Data → Result (Choice × M) FormFault
form_in forms d = do
  cmd ← ok_or (word_at members.Cmd d) SyntaxError
  _ ← refuse_unless (is_known forms cmd) UnknownCommand
  _ ← refuse_unless (not (takes_object forms cmd) || is_some (word_at members.Obj d)) SyntaxError
  ok_or (chosen forms cmd (word_at members.Obj d) (word_at members.Op d)) UnknownCommand

-- ---- its members

abbrev pub members_list : Members → List (List ℕ × Data)
members_list no_members = []
members_list (member name d ms) = (name, d) ∷ members_list ms

abbrev pub members_in : Option Members → List (List ℕ × Data)
members_in None = []
members_in (Some ms) = members_list ms

-- a member is a field of the section, and has its JSON type
unfoldable pub is_field : List Field → Section → List ℕ → Data → Bool
is_field fields section name d =
    list_any (λ f. is_section f.section section && (bytes_eq (member_text f.member) name && has_type f.kind d)) fields

-- each member of the part is such a field
unfoldable pub knows : List Field → Section → Data → Bool
knows fields section part = list_all (λ m. is_field fields section m.0 m.1) (members_in (as_object part))

abbrev pub none_or : {A : Type 0} → (A → Bool) → Option A → Bool
none_or test None = true
none_or test (Some x) = test x

-- no member is strange or of another JSON type
abbrev pub has_only : List Field → Data → Bool
has_only fields d = list_all (λ section. none_or (knows fields section) (part_at section d)) (Top ∷ Postal ∷ Add ∷ Rem ∷ Chg ∷ ChgPostal ∷ [])

-- a required field is there, where its section is
abbrev pub is_field_there : Field → Data → Bool
is_field_there f d = not f.required || (is_none (part_at f.section d) || is_some (value_of f d))

abbrev pub has_all : List Field → Data → Bool
has_all fields d = list_all (λ f. is_field_there f d) fields

abbrev pub is_empty_list : Data → Bool
is_empty_list d = of_items (λ ds. length ds == 0) d

-- a part of an update says something where one of its members isn't an empty list
unfoldable pub says_something : Data → Bool
says_something part = list_any (λ m. not (is_empty_list m.1)) (members_in (as_object part))

-- an update has to change something (RFC 5731, 3.2.5; RFC 5732, 3.2.5; RFC 5733, 3.2.5)
abbrev pub changes : Data → Bool
changes d = list_any (λ section. some_and says_something (part_at section d)) (Add ∷ Rem ∷ Chg ∷ [])

-- nothing that the form asks for is missing
abbrev pub is_complete : CommandForm → Data → Bool
is_complete form d = has_all form.1 d && (not (is_update form.0.cmd) || changes d)

-- each field that is there passes the test of its kind
abbrev pub each : (Kind → Data → Bool) → List Field → Data → Bool
each test fields d = list_all (λ f. none_or (test f.kind) (value_of f d)) fields

-- ---- the order of faults

unfoldable pub members_checked : CommandForm → Data → Result ⊤ FormFault
members_checked form d = do
  _ ← refuse_unless (has_only form.1 d) SyntaxError
  _ ← refuse_unless (is_complete form d) ParameterMissing
  _ ← refuse_unless (each in_range form.1 d) ParameterRange
  refuse_unless (each has_shape form.1 d) ParameterSyntax

-- the command that a value is by a table, or the first fault of its form: that `op` isn't known comes last
unfoldable pub checked_by : List CommandForm → Data → Result CommandKind FormFault
checked_by forms d = do
  form ← form_in forms d
  _ ← members_checked form d
  ok_or form.0.command ParameterSyntax

-- the same by the table of the commands
abbrev pub checked_command : Data → Result CommandKind FormFault
checked_command d = checked_by command_forms d
