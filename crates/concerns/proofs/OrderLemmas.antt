-- An order of the operator is answered, and changes the registry, in the same way whether all that is due
-- has lapsed or what an info of its object concerns.
use Rattle.std.proofs.Common.{◌≡◌, inr, ℕ, true, false, List, [], ◌∷◌, Option, Some, None, option_and_then, option_map, refl, sym, ap, ◌∙◌, ℤ}
use Rattle.std.specs.FinMap.{get}
use Rattle.objects.specs.declared.{contact.Contact.Contact, domain.Domain.Domain, host.Host.Host, roid.ObjectKind.ObjectKind}
use Rattle.objects.specs.declared.roid.ObjectKind.TheVariants as kinds
use Rattle.policy.specs.Rules.{PolicyRules, place_of}
use Rattle.protocol.specs.declared.order.Order.TheVariants as orders
use Rattle.protocol.specs.{declared.order.StatusOrder.StatusOrder, Codes.is_accepted, Orders.name_ordered, Requests.holds_of}
use Rattle.model.specs.{declared.object.Object.Object, Lapse.now, Objects.object_at, Registry.Registry}
use Rattle.model.specs.declared.object.Object.TheVariants as objects
use Rattle.decisions.specs.{declared.order.OrderDecision.OrderDecision, Changes.changed_all}
use Rattle.decisions.specs.Orders.{cents_of, decided_order, deposited, deposited_to, order_answer, order_changes, order_effect, status_decision}
use Rattle.concerns.specs.{Concerns.{IsSettledIn, concerned, contact_name, domain_name}, ConcernLaws.IsSettledFor}
use Rattle.concerns.specs.Names.{named_of, no_names}
use Rattle.concerns.proofs.{ChangeLemmas.{AllSuit, changed-now, suits-if}, ConcernLemmas.{in-itself, meant-borne}}
use Rattle.concerns.proofs.FactsLemmas.{contact-at, domain-at}
use Rattle.rules.specs.Orders.{order_code}

-- ---- the object under a name

pub object-now : (p : PolicyRules) (kind : ObjectKind) (name : List ℕ) (u : Registry) → IsSettledIn p (concerned None (named_of kind name) u) u
    → object_at (now p u) kind name ≡ object_at u kind name
object-now p kinds.Contact name u is = ap (option_map objects.Contact) (contact-at p None (named_of kinds.Contact name) u is name (in-itself name []))
object-now p kinds.Domain name u is = ap (option_map objects.Domain) (domain-at p None (named_of kinds.Domain name) u is name (in-itself name []))
object-now p kinds.Host name u is = refl

-- ---- statuses

module _ (p : PolicyRules) (o : StatusOrder) (u : Registry) where
  decision-at : (name : Option (List ℕ)) → IsSettledFor p o.kind name u → option_and_then (object_at (now p u) o.kind) name ≡ option_and_then (object_at u o.kind) name
  decision-at None is = refl
  decision-at (Some name) is = object-now p o.kind name u is

  suits-contact : (name : List ℕ) (found : Option Contact) → get u.contacts name ≡ found → AllSuit p None (named_of kinds.Contact name) u (order_changes o (option_map objects.Contact found))
  suits-contact name None at = tt
  suits-contact name (Some x) at = (meant-borne contact_name u.contacts (name ∷ []) name x _ (in-itself name []) at, tt)

  suits-domain : (name : List ℕ) (found : Option Domain) → get u.domains name ≡ found → AllSuit p None (named_of kinds.Domain name) u (order_changes o (option_map objects.Domain found))
  suits-domain name None at = tt
  suits-domain name (Some d) at = (meant-borne domain_name u.domains (name ∷ []) name d _ (in-itself name []) at, tt)

  suits-host : (name : List ℕ) (found : Option Host) → AllSuit p None (named_of kinds.Host name) u (order_changes o (option_map objects.Host found))
  suits-host name None = tt
  suits-host name (Some h) = (tt, tt)

  suits-at : (kind : ObjectKind) (name : List ℕ) → AllSuit p None (named_of kind name) u (order_changes o (object_at u kind name))
  suits-at kinds.Contact name = suits-contact name (get u.contacts name) refl
  suits-at kinds.Domain name = suits-domain name (get u.domains name) refl
  suits-at kinds.Host name = suits-host name (get u.hosts name)

  abbrev decided_at : Option Object → OrderDecision
  decided_at found = decided_order o found (order_code o found)

  changes-now : (name : Option (List ℕ)) → IsSettledFor p o.kind name u
      → now p (changed_all p (decided_at (option_and_then (object_at u o.kind) name)).changes u) ≡ now p (changed_all p (decided_at (option_and_then (object_at u o.kind) name)).changes (now p u))
  changes-now None is = changed-now p None no_names u is (decided_at None).changes (suits-if p None no_names u [] (is_accepted (order_code o None)) tt)
  changes-now (Some name) is =
      let found : Option Object = object_at u o.kind name in
      changed-now p None (named_of o.kind name) u is (decided_at found).changes (suits-if p None (named_of o.kind name) u (order_changes o found) (is_accepted (order_code o found)) (suits-at o.kind name))

  module _ (is : IsSettledFor p o.kind (name_ordered p.zone o) u) where
    status-now : status_decision p.zone o (now p u) ≡ status_decision p.zone o u
    status-now = ap decided_at (decision-at (name_ordered p.zone o) is)

    pub status-answer-now : order_answer p (orders.Status o) (now p u) ≡ order_answer p (orders.Status o) u
    status-answer-now = ap (λ (d : OrderDecision). d.code) status-now

    pub status-effect-now : now p (order_effect p (orders.Status o) u) ≡ now p (order_effect p (orders.Status o) (now p u))
    status-effect-now = changes-now (name_ordered p.zone o) is ∙ ap (λ (d : OrderDecision). now p (changed_all p d.changes (now p u))) (sym status-now)

-- ---- a deposit, which concerns nothing

module _ (p : PolicyRules) (u : Registry) where
  deposit-place : (cents : ℕ) (place : Option ℕ) → AllSuit p None no_names u (deposited_to u.clock cents place).changes
  deposit-place cents None = tt
  deposit-place cents (Some r) = (inr refl, tt)

  deposit-cents : (id : List ℕ) (cents : Option ℕ) → AllSuit p None no_names u (deposited p u.clock id cents).changes
  deposit-cents id None = tt
  deposit-cents id (Some cents) = deposit-place cents (place_of id p)

  none-holds : {X : Type 0} (o : Option X) → holds_of (λ (x : X). false) o ≡ true → ⊥
  none-holds None e = cc
  none-holds (Some x) e = cc

  -- nothing is concerned where nothing is named and nobody asks
  pub nothing-due : IsSettledIn p (concerned None no_names u) u
  nothing-due = record {
    contacts = λ name x at e. absurd (none-holds (get u.contacts name) e);
    domains = λ name d at e. absurd (none-holds (get u.domains name) e);
  }

  pub deposit-effect-now : (id : List ℕ) (cents : ℤ) → now p (order_effect p (orders.Deposit id cents) u) ≡ now p (order_effect p (orders.Deposit id cents) (now p u))
  deposit-effect-now id cents = changed-now p None no_names u nothing-due (deposited p u.clock id (cents_of cents)).changes (deposit-cents id (cents_of cents))
