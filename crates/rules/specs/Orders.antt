-- What the operator's orders are answered.
use Rattle.std.specs.Prelude.{Bool, false, ◌&&◌, ◌||◌, not, List, Option, unwrap_or, is_none, is_some}
use Rattle.std.specs.List.{list_any}
use Rattle.facts.specs.Lists.{has_twice}
use Rattle.model.specs.declared.object.Object.{Object}
use Rattle.model.specs.declared.object.Object.TheVariants as objects
use Rattle.model.specs.Objects.{statuses_of}
use Rattle.objects.specs.declared.roid.ObjectKind.{ObjectKind}
use Rattle.objects.specs.declared.status.Status.{Status}
use Rattle.objects.specs.declared.status.Status.TheVariants.{ServerDeleteProhibited, ServerTransferProhibited}
use Rattle.objects.specs.Statuses.{has_status, server_statuses}
use Rattle.objects.specs.StatusTexts.{status_text}
use Rattle.objects.specs.Transfers.{is_pending}
use Rattle.protocol.specs.declared.code.Code.{Code}
use Rattle.protocol.specs.declared.code.Code.TheVariants as codes
use Rattle.protocol.specs.declared.order.StatusOrder.{StatusOrder}
use Rattle.protocol.specs.Requests.{holds_of}
use Rattle.rules.specs.declared.order.OrderCondition.{OrderCondition}
use Rattle.rules.specs.declared.order.OrderCondition.TheVariants.{IsMissing, ContradictsPendingState, HasUnknownStatus, HasAnothersStatus, ListRepeats, AddsWhatIsSet, RemovesWhatIsUnset}
use Rattle.rules.specs.declared.order.TheConstants.{STATUS_ORDER}
use Rattle.rules.specs.Causes.{cause_of_order}
use Rattle.rules.specs.Conditions.{any_set, any_unset}
use Rattle.rules.specs.Refusals.{first_refusal}

-- it is too late to prohibit that a deleted domain is deleted, or that what pends is transferred
abbrev pub contradicts_pending_state : List Status → Object → Bool
contradicts_pending_state added (objects.Contact c) =
    has_status added ServerTransferProhibited && is_pending c.transfer
contradicts_pending_state added (objects.Domain d) = (has_status added ServerDeleteProhibited && is_some d.deletion) || (has_status added ServerTransferProhibited && is_pending d.transfer)
contradicts_pending_state added (objects.Host h) = false

-- A status isn't one that the operator sets on this kind of object (RFC 5731, 2.3; RFC 5732, 2.3;
-- RFC 5733, 2.2).
abbrev pub any_foreign : ObjectKind → List Status → Bool
any_foreign kind statuses =
    list_any (λ status. not (has_status (server_statuses kind) status)) statuses

abbrev pub order_holds : StatusOrder → Option Object → OrderCondition → Bool
order_holds o object IsMissing = is_none object
order_holds o object ContradictsPendingState = holds_of (contradicts_pending_state o.add) object
order_holds o object HasUnknownStatus = o.has_unknown_status
order_holds o object HasAnothersStatus = any_foreign o.kind o.add || any_foreign o.kind o.rem
order_holds o object ListRepeats = has_twice status_text o.add || has_twice status_text o.rem
order_holds o object AddsWhatIsSet = holds_of (λ it. any_set (statuses_of it) o.add) object
order_holds o object RemovesWhatIsUnset = holds_of (λ it. any_unset (statuses_of it) o.rem) object

-- what an order is answered, by the object that it names
unfoldable pub order_code : StatusOrder → Option Object → Code
order_code o object =
    unwrap_or (first_refusal cause_of_order (order_holds o object) STATUS_ORDER.now) codes.Completed
