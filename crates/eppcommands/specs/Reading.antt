-- What a member of a well formed command says. A name, an address and a status are read here, which is the last step of the form.
use Rattle.std.specs.Prelude.{◌≡◌, ℕ, Bool, List, [], ◌∷◌, Option, Some, None, option_and_then, option_map, Result, Ok, Err, ok_or}
use Rattle.serde_json.specs.Data.{Data}
use Rattle.serde_json.specs.Find.{as_str, as_array, as_number, as_u64}
use Rattle.names.specs.declared.fault.NameFault as name_fault
use Rattle.names.specs.declared.fault.NameFault.TheVariants as name_faults
use Rattle.names.specs.RequestedName.{RequestedName}
use Rattle.names.specs.Canonical.{canonical}
use Rattle.names.specs.Addresses.{address_of}
use Rattle.objects.specs.declared.roid.ObjectKind.{ObjectKind}
use Rattle.objects.specs.declared.status.Status.{Status}
use Rattle.objects.specs.StatusTexts.{status_named}
use Rattle.objects.specs.Statuses.{client_statuses, has_status}
use Rattle.protocol.specs.declared.form.FormFault.{FormFault}
use Rattle.protocol.specs.declared.form.FormFault.TheVariants.{SyntaxError, ParameterMissing, ParameterRange, ParameterSyntax}
use Rattle.eppforms.specs.declared.member.Member.{Member}
use Rattle.eppforms.specs.declared.member.Section.{Section}
use Rattle.eppcommands.specs.declared.reading.CommandFault.{CommandFault}
use Rattle.eppcommands.specs.declared.reading.CommandFault.TheVariants.{Refused, Memory}
use Rattle.protocol.specs.Years.{years_of}
use Rattle.eppforms.specs.Kind.{items_list}
use Rattle.eppforms.specs.Form.{◌>>=◌, refuse_unless}
use Rattle.eppforms.specs.Member.{value_at}
use Rattle.eppcommands.specs.Dates.{date_in, moment_in}

-- what a function returned is what reading gives, unless memory ran out
abbrev pub Gives : {A : Type 0} → Result A CommandFault → Result A FormFault → Type 0
Gives (Ok x) read = read ≡ Ok x
Gives (Err (Refused code)) read = read ≡ Err code
Gives (Err Memory) read = Unit {0}

abbrev pub fault_of : name_fault.NameFault → CommandFault
fault_of name_faults.Memory = Memory
fault_of name_faults.Syntax = Refused ParameterSyntax
fault_of name_faults.Policy = Refused ParameterSyntax

-- ---- one value

-- what was read, or that the text has another shape
abbrev pub or_shape : {A : Type 0} → Result A name_fault.NameFault → Result A FormFault
or_shape (Ok x) = Ok x
or_shape (Err fault) = Err ParameterSyntax

unfoldable pub name_in : Data → Result RequestedName FormFault
name_in d = do
  text ← ok_or (as_str d) SyntaxError
  or_shape (canonical text)

abbrev pub text_in : Data → Result (List ℕ) FormFault
text_in d = ok_or (as_str d) SyntaxError

-- an address, in its canonical text (RFC 5732, 2.5)
unfoldable pub address_in : Data → Result (List ℕ) FormFault
address_in d = do
  text ← ok_or (as_str d) SyntaxError
  or_shape (address_of text)

-- a sponsor may set the status on an object of that kind
unfoldable pub is_client : ObjectKind → Status → Bool
is_client kind status = has_status (client_statuses kind) status

-- such a status
unfoldable pub status_in : ObjectKind → Data → Result Status FormFault
status_in kind d = do
  text ← ok_or (as_str d) SyntaxError
  status ← ok_or (status_named text) ParameterSyntax
  _ ← refuse_unless (is_client kind status) ParameterSyntax
  Ok status

-- each of a list
abbrev pub all_in : {A : Type 0} → (Data → Result A FormFault) → List Data
    → Result (List A) FormFault
all_in read [] = Ok []
all_in read (d ∷ ds) = do
  x ← read d
  xs ← all_in read ds
  Ok (x ∷ xs)

abbrev pub items_in : Data → Result (List Data) FormFault
items_in d = ok_or (option_map items_list (as_array d)) SyntaxError

-- a list that is missing is empty
abbrev pub list_in : {A : Type 0} → (Data → Result A FormFault) → Option Data
    → Result (List A) FormFault
list_in read None = Ok []
list_in read (Some d) = do
  items ← items_in d
  all_in read items

abbrev pub maybe_in : {A : Type 0} → (Data → Result A FormFault) → Option Data
    → Result (Option A) FormFault
maybe_in read None = Ok None
maybe_in read (Some d) = do
  x ← read d
  Ok (Some x)

-- years of which nothing is said are one
abbrev pub years_in : Option Data → Result ℕ FormFault
years_in None = Ok 1
years_in (Some d) = do
  n ← ok_or (option_and_then as_u64 (as_number d)) SyntaxError
  ok_or (years_of n) ParameterRange

abbrev pub required : {A : Type 0} → (Data → Result A FormFault) → Option Data → Result A FormFault
required read o = do
  d ← ok_or o ParameterMissing
  read d

-- ---- a member in a section

abbrev pub name_at : Section → Member → Data → Result RequestedName FormFault
name_at section m d = required (name_in) (value_at section m d)

abbrev pub maybe_name_at : Section → Member → Data → Result (Option RequestedName) FormFault
maybe_name_at section m d = maybe_in (name_in) (value_at section m d)

abbrev pub names_at : Section → Member → Data → Result (List RequestedName) FormFault
names_at section m d = list_in (name_in) (value_at section m d)

abbrev pub text_at : Section → Member → Data → Result (List ℕ) FormFault
text_at section m d = required text_in (value_at section m d)

abbrev pub maybe_text_at : Section → Member → Data → Result (Option (List ℕ)) FormFault
maybe_text_at section m d = maybe_in text_in (value_at section m d)

abbrev pub texts_at : Section → Member → Data → Result (List (List ℕ)) FormFault
texts_at section m d = list_in text_in (value_at section m d)

abbrev pub addresses_at : Section → Member → Data → Result (List (List ℕ)) FormFault
addresses_at section m d = list_in address_in (value_at section m d)

abbrev pub statuses_at : ObjectKind → Section → Member → Data → Result (List Status) FormFault
statuses_at kind section m d = list_in (status_in kind) (value_at section m d)

abbrev pub years_at : Section → Member → Data → Result ℕ FormFault
years_at section m d = years_in (value_at section m d)

abbrev pub date_at : Section → Member → Data → Result (List ℕ) FormFault
date_at section m d = required date_in (value_at section m d)

abbrev pub moment_at : Section → Member → Data → Result ℕ FormFault
moment_at section m d = required moment_in (value_at section m d)
