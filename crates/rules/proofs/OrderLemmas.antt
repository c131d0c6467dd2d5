-- The laws that the answer to an order keeps.
use Rattle.std.proofs.Common.{◌≡◌, Bool, true, false, inl, inr, Option, Some, None, option_map, unwrap_or, find, refl, sym, ◌&&◌, subst, arith}
use Rattle.std.proofs.lemmas.Bool.{or_from, or_parts}
use Rattle.model.specs.{declared.object.Object.Object, Objects.statuses_of}
use Rattle.model.specs.declared.object.Object.TheVariants as objects
use Rattle.protocol.specs.{declared.{code.Code.Code, order.StatusOrder.StatusOrder}, Requests.holds_of}
use Rattle.protocol.specs.declared.code.Code.TheVariants as codes
use Rattle.rules.specs.{Causes.cause_of_order, Conditions.{any_set, any_unset}}
use Rattle.rules.specs.OrderLaws.{AnswersOrderLawfully, FitsWhatPends, KeepsOrder}
use Rattle.rules.specs.{Orders.{contradicts_pending_state, order_code, order_holds}, Refusals.{AnswersByLaws, code_of, first_refusal}}
use Rattle.rules.specs.declared.order.OrderCondition.{OrderCondition}
use Rattle.rules.specs.declared.order.OrderCondition.TheVariants.{IsMissing, ContradictsPendingState, HasUnknownStatus, HasAnothersStatus, ListRepeats, AddsWhatIsSet, RemovesWhatIsUnset}
use Rattle.rules.specs.declared.{order.TheConstants.STATUS_ORDER, refusal.Cause.Cause}
use Rattle.rules.specs.declared.refusal.Cause.TheVariants.{Missing, StatusProhibits, ParametersRefused}
use Rattle.rules.proofs.RowLemmas.{IsClear, granted-by-laws, not-none, refused-by-laws, some-is}

-- what fails of what is there
of-object : (test : Object → Bool) (object : Option Object) → holds_of test object ≡ false → (x : Object) → object ≡ Some x → test x ≡ false
of-object test object e x is = subst (λ (it : Option Object). holds_of test it ≡ false) is e

by-object : (test : Object → Bool) (object : Option Object) → ((x : Object) → object ≡ Some x → test x ≡ false) → holds_of test object ≡ false
by-object test None fails = refl
by-object test (Some x) fails = fails x refl

-- of two that aren't both so, the first isn't where the second is; and the other way round
not-first : (a b : Bool) → (a && b) ≡ false → b ≡ true → a ≡ false
not-first a b e is = grind arith

not-both : (a b : Bool) → (b ≡ true → a ≡ false) → (a && b) ≡ false
not-both a b fails = grind arith

module _ (o : StatusOrder) (object : Option Object) where
  abbrev Clear : Cause → Type 0
  Clear cause = IsClear cause_of_order (order_holds o object) STATUS_ORDER.now cause

  fits-what-pends : Clear StatusProhibits → FitsWhatPends o object
  fits-what-pends clear =
      let fails : (x : Object) → object ≡ Some x → contradicts_pending_state o.add x ≡ false = of-object (contradicts_pending_state o.add) object (clear ContradictsPendingState (search (inl, inr) depth 20) refl) in record {
        deletion = λ d is pends. not-first _ _ (or_parts _ _ (fails (objects.Domain d) is)).0 pends;
        domain_transfer = λ d is pends. not-first _ _ (or_parts _ _ (fails (objects.Domain d) is)).1 pends;
        contact_transfer = λ c is pends. not-first _ _ (fails (objects.Contact c) is) pends;
      }

  keeps : (cause : Cause) → Clear cause → KeepsOrder o object cause
  keeps Missing clear = record { there = some-is object (clear IsMissing (inl refl) refl) }
  keeps StatusProhibits clear = fits-what-pends clear
  keeps ParametersRefused clear = record {
    known = clear HasUnknownStatus (search (inl, inr) depth 20) refl;
    operators = clear HasAnothersStatus (search (inl, inr) depth 20) refl;
    once = clear ListRepeats (search (inl, inr) depth 20) refl;
    adds = of-object (λ (x : Object). any_set (statuses_of x) o.add) object (clear AddsWhatIsSet (search (inl, inr) depth 20) refl);
    removes = of-object (λ (x : Object). any_unset (statuses_of x) o.rem) object (clear RemovesWhatIsUnset (search (inl, inr) depth 20) refl);
  }
  keeps _ clear = tt

  uncontradicted : FitsWhatPends o object → (x : Object) → object ≡ Some x → contradicts_pending_state o.add x ≡ false
  uncontradicted fits (objects.Contact c) is = not-both _ _ (fits.contact_transfer c is)
  uncontradicted fits (objects.Domain d) is = or_from _ _ (not-both _ _ (fits.deletion d is)) (not-both _ _ (fits.domain_transfer d is))
  uncontradicted fits (objects.Host h) is = refl

  -- where the law of its cause is kept, the row doesn't hold
  breaks : (condition : OrderCondition) → KeepsOrder o object (cause_of_order condition) → order_holds o object condition ≡ false
  breaks IsMissing kept = not-none object kept.there
  breaks ContradictsPendingState kept = by-object (contradicts_pending_state o.add) object (uncontradicted kept)
  breaks HasUnknownStatus kept = kept.known
  breaks HasAnothersStatus kept = kept.operators
  breaks ListRepeats kept = kept.once
  breaks AddsWhatIsSet kept = by-object (λ (x : Object). any_set (statuses_of x) o.add) object kept.adds
  breaks RemovesWhatIsUnset kept = by-object (λ (x : Object). any_unset (statuses_of x) o.rem) object kept.removes

  by-first : (first : Option OrderCondition) → find (order_holds o object) STATUS_ORDER.now ≡ first
      → AnswersByLaws (KeepsOrder o object) (unwrap_or (option_map (λ (condition : OrderCondition). code_of (cause_of_order condition)) first) codes.Completed)
  by-first None none = granted-by-laws cause_of_order (order_holds o object) STATUS_ORDER.now (KeepsOrder o object) keeps (λ condition stands. breaks condition) none codes.Completed refl
  by-first (Some condition) first = refused-by-laws cause_of_order (order_holds o object) STATUS_ORDER.now (KeepsOrder o object) keeps (λ condition stands. breaks condition) refl condition first

pub answers-lawfully : (o : StatusOrder) (object : Option Object) (code : Code) → code ≡ order_code o object → AnswersOrderLawfully o object code
unfolding AnswersOrderLawfully order_code first_refusal
answers-lawfully o object code is = subst (AnswersByLaws (KeepsOrder o object)) (sym is) (by-first o object (find (order_holds o object) STATUS_ORDER.now) refl)
