-- The operator's orders (RFC 5731, 2.3: the statuses that begin with server are the server's alone).
use Rattle.std.specs.Prelude.{ℕ, ◌^◌, nat_lt, ◌&&◌, ◌||◌, Bool, List, [], ◌∷◌, Option, Some, None, option_and_then, is_none, if◌then◌else◌, Result, Ok, Err, ok_or, codes}
use Rattle.std.specs.List.{list_any}
use Rattle.std.specs.Str.{bytes_eq, is_utf8}
use Rattle.serde_json.specs.Data.{Data, Num}
use Rattle.serde_json.specs.Find.{as_str, as_number, as_i64, as_u64}
use Rattle.serde_json.specs.Read.{read}
use Rattle.objects.specs.declared.roid.ObjectKind.{ObjectKind}
use Rattle.objects.specs.declared.status.Status as the_status
use Rattle.objects.specs.StatusTexts.{status_named}
use Rattle.protocol.specs.declared.form.FormFault.{FormFault}
use Rattle.protocol.specs.declared.form.FormFault.TheVariants.{SyntaxError, UnknownCommand, ParameterRange}
use Rattle.protocol.specs.declared.order.Order as the_order
use Rattle.protocol.specs.declared.order.Order.TheVariants.{Status, Deposit}
use Rattle.protocol.specs.declared.order.OperatorRequest.{OperatorRequest}
use Rattle.protocol.specs.declared.order.OperatorRequest.TheVariants as requests
use Rattle.eppforms.specs.declared.member.Member.{Member}
use Rattle.eppforms.specs.declared.member.Member.TheVariants as members
use Rattle.eppforms.specs.declared.member.Section.TheVariants.{Top}
use Rattle.eppforms.specs.declared.table.TheConstants.{STATUS_ORDER_FORM, DEPOSIT_ORDER_FORM, SETTLE_ORDER_FORM}
use Rattle.eppforms.specs.declared.table.Field.{Field}
use Rattle.eppforms.specs.Form.{◌>>=◌, refuse_unless, has_only, has_all}
use Rattle.eppforms.specs.Member.{member_at, word_at}
use Rattle.eppforms.specs.Table.{object_named}
use Rattle.eppcommands.specs.Reading.{required, items_in, text_at}

-- the status that a text names
abbrev pub status_given : Data → Option the_status.Status
status_given d = option_and_then status_named (as_str d)

abbrev with_status : Option the_status.Status → List the_status.Status → List the_status.Status
with_status None statuses = statuses
with_status (Some status) statuses = status ∷ statuses

-- the statuses that texts name, in the order of the texts
abbrev pub statuses_given : List Data → List the_status.Status
statuses_given [] = []
statuses_given (d ∷ ds) = with_status (status_given d) (statuses_given ds)

-- a text names no status
abbrev pub any_unknown_status : List Data → Bool
any_unknown_status ds = list_any (λ d. is_none (status_given d)) ds

abbrev pub list_at : Member → Data → Result (List Data) FormFault
list_at m d = required items_in (member_at m d)

-- each member of the form is there, and none but these
abbrev pub has_form : List Field → Data → Bool
has_form form d = has_only form d && has_all form d

abbrev pub number_at : Member → Data → Result Num FormFault
number_at m d = ok_or (option_and_then as_number (member_at m d)) SyntaxError

-- ---- each order

-- the kind of object of an order to set and take away statuses
unfoldable pub kind_ordered : Data → Result ObjectKind FormFault
kind_ordered d = do
  _ ← refuse_unless (has_form STATUS_ORDER_FORM.now d) SyntaxError
  obj ← ok_or (word_at members.Obj d) SyntaxError
  ok_or (object_named obj) UnknownCommand

unfoldable pub status_order : Data → Result the_order.Order FormFault
status_order d = do
  kind ← kind_ordered d
  name ← text_at Top members.Name d
  add ← list_at members.Add d
  rem ← list_at members.Rem d
  Ok (Status (record { kind = kind; name = name; add = statuses_given add; rem = statuses_given rem; has_unknown_status = any_unknown_status add || any_unknown_status rem }))

-- what a registrar paid
unfoldable pub deposit_order : Data → Result the_order.Order FormFault
deposit_order d = do
  _ ← refuse_unless (has_form DEPOSIT_ORDER_FORM.now d) SyntaxError
  registrar ← text_at Top members.Registrar d
  number ← number_at members.Cents d
  cents ← ok_or (as_i64 number) ParameterRange
  Ok (Deposit registrar cents)

-- how many of the objects that are due are to lapse, at most
unfoldable pub settle_order : Data → Result OperatorRequest FormFault
settle_order d = do
  _ ← refuse_unless (has_form SETTLE_ORDER_FORM.now d) SyntaxError
  number ← number_at members.AtMost d
  at_most ← ok_or (as_u64 number) ParameterRange
  _ ← refuse_unless (nat_lt at_most (2 ^ 32)) ParameterRange
  Ok (requests.Settle at_most)

-- ---- what the operator sends

-- an order to be carried out by the rules
abbrev pub as_order : Result the_order.Order FormFault → Result OperatorRequest FormFault
as_order given = do
  order ← given
  Ok (requests.Order order)

-- what `order` says
abbrev pub order_said : List ℕ → Data → Result OperatorRequest FormFault
order_said order d =
    if bytes_eq order (codes "status") then as_order (status_order d)
    else (if bytes_eq order (codes "deposit") then as_order (deposit_order d)
    else (if bytes_eq order (codes "settle") then settle_order d
    else Err UnknownCommand))

unfoldable pub order_given : Data → Result OperatorRequest FormFault
order_given d = do
  order ← ok_or (word_at members.Order d) SyntaxError
  order_said order d

-- what is of another form is no order, whatever is wrong with it
abbrev pub if_ok : {A : Type 0} → Result A FormFault → Option A
if_ok (Ok x) = Some x
if_ok (Err code) = None

abbrev pub order_of_data : Data → Option OperatorRequest
order_of_data d = if_ok (order_given d)

abbrev pub order_in : List ℕ → Option OperatorRequest
order_in payload = option_and_then order_of_data (if is_utf8 payload then read payload else None)
