-- What an order of the operator is answered and what it changes.
use Rattle.std.specs.Prelude.{ℕ, nat_le, ◌&&◌, ℤ, pos, negsuc, List, [], ◌∷◌, Option, Some, None, if◌then◌else◌}
use Rattle.accounts.specs.declared.line.Line.{Line}
use Rattle.accounts.specs.declared.line.LineKind.TheVariants as lines
use Rattle.lifecycle.specs.declared.change.AccountChange.TheVariants.{Charge}
use Rattle.names.specs.Zone.{ZoneRules}
use Rattle.policy.specs.Rules.{PolicyRules, place_of}
use Rattle.objects.specs.declared.status.Status.{Status}
use Rattle.objects.specs.Statuses.{amended_statuses}
use Rattle.decisions.specs.declared.change.Change.{Change}
use Rattle.decisions.specs.declared.change.Change.TheVariants.{PutContact, PutDomain, PutHost, Post}
use Rattle.decisions.specs.declared.order.OrderDecision.{OrderDecision}
use Rattle.decisions.specs.declared.order.TheConstants.{MOST_DEPOSITED}
use Rattle.decisions.specs.Changes.{changed_all}
use Rattle.protocol.specs.declared.code.Code.{Code}
use Rattle.protocol.specs.declared.code.Code.TheVariants.{Completed, ObjectMissing, ParameterRange}
use Rattle.model.specs.declared.object.Object.{Object}
use Rattle.model.specs.declared.object.Object.TheVariants as objects
use Rattle.protocol.specs.declared.order.Order.{Order}
use Rattle.protocol.specs.declared.order.Order.TheVariants as orders
use Rattle.protocol.specs.declared.order.StatusOrder.{StatusOrder}
use Rattle.protocol.specs.Codes.{is_accepted}
use Rattle.model.specs.Objects.{object_ordered, statuses_of}
use Rattle.rules.specs.Orders.{order_code}
use Rattle.model.specs.Registry.{Registry}

-- the statuses that an order leaves
abbrev pub ordered : StatusOrder → List Status → List Status
ordered o statuses = amended_statuses statuses o.rem o.add

-- the object with these statuses
abbrev pub put_with : List Status → Object → Change
put_with statuses (objects.Contact c) = PutContact (record c { statuses = statuses })
put_with statuses (objects.Domain d) = PutDomain (record d { statuses = statuses })
put_with statuses (objects.Host h) = PutHost (record h { statuses = statuses })

-- the object with the statuses that an order leaves; the date of its sponsor's last update stays
abbrev pub put_ordered : StatusOrder → Object → Change
put_ordered o object = put_with (ordered o (statuses_of object)) object

abbrev pub order_changes : StatusOrder → Option Object → List Change
order_changes o None = []
order_changes o (Some object) = put_ordered o object ∷ []

-- a refused order changes nothing
abbrev pub decided_order : StatusOrder → Option Object → Code → OrderDecision
decided_order o object code = record { code = code; changes = if is_accepted code then order_changes o object else [] }

abbrev pub status_decision : ZoneRules → StatusOrder → Registry → OrderDecision
status_decision zone o s =
    decided_order o (object_ordered zone o s) (order_code o (object_ordered zone o s))

-- ---- deposits

-- the cents that can be deposited at once
abbrev pub cents_of : ℤ → Option ℕ
cents_of (pos n) = if nat_le 1 n && nat_le n MOST_DEPOSITED then Some n else None
cents_of (negsuc n) = None

abbrev pub deposit_line : ℕ → ℕ → Line
deposit_line t cents = record { kind = lines.Deposit; roid = None; recorded = t; years = 0; cents = cents; started = None; refunded = None }

-- to a registrar, if there is such a one
abbrev pub deposited_to : ℕ → ℕ → Option ℕ → OrderDecision
deposited_to t cents None = record { code = ObjectMissing; changes = [] }
deposited_to t cents (Some r) =
    record { code = Completed; changes = Post r (Charge (deposit_line t cents)) ∷ [] }

abbrev pub deposited : PolicyRules → ℕ → List ℕ → Option ℕ → OrderDecision
deposited p t registrar None = record { code = ParameterRange; changes = [] }
deposited p t registrar (Some cents) = deposited_to t cents (place_of registrar p)

-- a deposit at a moment, with the cents that were sent
abbrev pub deposit_decision : PolicyRules → ℕ → List ℕ → ℤ → OrderDecision
deposit_decision p t registrar cents = deposited p t registrar (cents_of cents)

-- the decision on an order in a registry
abbrev pub order_decision : PolicyRules → Order → Registry → OrderDecision
order_decision p (orders.Status o) s = status_decision p.zone o s
order_decision p (orders.Deposit registrar cents) s = deposit_decision p s.clock registrar cents

-- what an order is answered
abbrev pub order_answer : PolicyRules → Order → Registry → Code
order_answer p order s = (order_decision p order s).code

-- what it leaves
abbrev pub order_effect : PolicyRules → Order → Registry → Registry
order_effect p order s = changed_all p (order_decision p order s).changes s
