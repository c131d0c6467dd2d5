-- What the operator's orders keep, in the words of the standards (RFC 5731 to 5733), without their table.
use Rattle.std.specs.Prelude.{◌≡◌, ◌||◌, true, false, Option, Some, is_some}
use Rattle.facts.specs.Lists.{has_twice}
use Rattle.model.specs.declared.object.Object.{Object}
use Rattle.model.specs.declared.object.Object.TheVariants as objects
use Rattle.model.specs.Objects.{statuses_of}
use Rattle.objects.specs.declared.contact.Contact.{Contact}
use Rattle.objects.specs.declared.domain.Domain.{Domain}
use Rattle.objects.specs.declared.status.Status.TheVariants.{ServerDeleteProhibited, ServerTransferProhibited}
use Rattle.objects.specs.Statuses.{has_status}
use Rattle.objects.specs.StatusTexts.{status_text}
use Rattle.objects.specs.Transfers.{is_pending}
use Rattle.protocol.specs.declared.code.Code.{Code}
use Rattle.protocol.specs.declared.order.StatusOrder.{StatusOrder}
use Rattle.rules.specs.declared.refusal.Cause.{Cause}
use Rattle.rules.specs.declared.refusal.Cause.TheVariants.{Missing, StatusProhibits, ParametersRefused}
use Rattle.rules.specs.Conditions.{any_set, any_unset}
use Rattle.rules.specs.Orders.{any_foreign}
use Rattle.rules.specs.Refusals.{AnswersByLaws}

-- the object is there whose statuses are set (RFC 5730, 3, code 2303)
pub record ObjectIsThere (object : Option Object) : Type 0 where
  pub there : is_some object ≡ true

-- It isn't prohibited that a domain is deleted whose deletion pends, nor that a contact or a domain is
-- transferred whose transfer pends (RFC 5731, 2.3; RFC 5733, 2.2).
pub record FitsWhatPends (o : StatusOrder) (object : Option Object) : Type 0 where
  pub deletion : (d : Domain) → object ≡ Some (objects.Domain d) → is_some d.deletion ≡ true
      → has_status o.add ServerDeleteProhibited ≡ false
  pub domain_transfer : (d : Domain) → object ≡ Some (objects.Domain d) → is_pending d.transfer ≡ true
      → has_status o.add ServerTransferProhibited ≡ false
  pub contact_transfer : (c : Contact) → object ≡ Some (objects.Contact c)
      → is_pending c.transfer ≡ true → has_status o.add ServerTransferProhibited ≡ false

-- Each status that is named is one that the operator sets on such an object, and none is named twice. What
-- is added isn't set, and what is removed is (RFC 5731, 2.3; RFC 5732, 2.3; RFC 5733, 2.2).
pub record StatusesFit (o : StatusOrder) (object : Option Object) : Type 0 where
  pub known : o.has_unknown_status ≡ false
  pub operators : (any_foreign o.kind o.add || any_foreign o.kind o.rem) ≡ false
  pub once : (has_twice status_text o.add || has_twice status_text o.rem) ≡ false
  pub adds : (x : Object) → object ≡ Some x → any_set (statuses_of x) o.add ≡ false
  pub removes : (x : Object) → object ≡ Some x → any_unset (statuses_of x) o.rem ≡ false

-- the law whose breach is the cause; an order has no others to break
abbrev pub KeepsOrder : StatusOrder → Option Object → Cause → Type 0
KeepsOrder o object Missing = ObjectIsThere object
KeepsOrder o object StatusProhibits = FitsWhatPends o object
KeepsOrder o object ParametersRefused = StatusesFit o object
KeepsOrder o object _ = Unit {0}

unfoldable pub AnswersOrderLawfully : StatusOrder → Option Object → Code → Type 0
AnswersOrderLawfully o object code = AnswersByLaws (KeepsOrder o object) code
