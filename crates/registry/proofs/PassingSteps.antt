-- Time passes in a transaction, with what somebody asks for.
use Rattle.std.proofs.Common.{◌≡◌, ℕ, true, max, List, Option, Some, None, Result, Ok, Err, refl, sym, subst, ap, ◌∙◌, ℤ, arith}
use Rattle.registry.proofs.Words.{account_of, AreChangesMade, at, BookFault, BookState, BookStays, BookWrites, changed_all, deposit_decision, Due}
use Rattle.registry.proofs.Words.{due_at_name, dues_lapsed, HasMoved, IsGreetingStep, IsLookUp, IsOrderCarriedOut, IsOrderStep, IsPrepared, IsStep}
use Rattle.registry.proofs.Words.{IsWithin, lapsed, lapses-on, lapsing, now, ObjectKind, order_answer, order_effect, PolicyRules, Registry}
use Rattle.registry.proofs.Words.{status_at, Stored, with_dues_lapsed, with_lapsed, Works}
use Rattle.registry.proofs.{LapsingLemmas.{all-lapsed, chosen, each-as-some, has-concerned, some-lapsed}, StepLemmas.{within-on, written}}
use Rattle.concerns.specs.{Concerns.{IsSettledIn, concerned}, ConcernLaws.IsSettledFor, Names.named_by, DueFor.due_for}
use Rattle.concerns.proofs.{CommandLemmas.{answer-now, effect-now}, ConcernLemmas.caught-up}
use Rattle.concerns.proofs.OrderLemmas.{deposit-effect-now, nothing-due, status-answer-now, status-effect-now}
use Rattle.model.specs.Lapse.{lapse}
use Rattle.facts.specs.Facts.{facts}
use Rattle.protocol.specs.declared.{code.Code.Code, command.Command.Command, order.StatusOrder.StatusOrder, reply.Reply.Reply}
use Rattle.protocol.specs.Orders.{name_ordered}
use Rattle.protocol.specs.declared.order.Order.TheVariants as orders
use Rattle.registry.specs.declared.command.Prepared.{Prepared}
use Rattle.registry.specs.inner.Passing.{Extent, IsPassed, IsSettledAs, about_named, concerning, due_in, everything, nothing}
use Rattle.decisions.specs.{Decisions.decided, Steps.{answer, effect, reply_of}}

-- ---- of a registry

-- the registry of a moment is what it is by then
pub now-lapsed : (p : PolicyRules) (moment : ℕ) (s : Registry)
    → now p (lapsed p moment s) ≡ lapsed p moment s
now-lapsed p moment s = lapses-on p (max moment s.clock) (max moment s.clock) (omega arith) s

later : (moment before after : ℕ) → after ≡ max moment before → max moment after ≡ after
later moment before after e = omega (arith, e)

-- a registry that is now what another was at a moment is at that moment what the other is
pub same_then : (p : PolicyRules) (moment : ℕ) (before after : Registry)
    → now p after ≡ now p (lapsed p moment before) → lapsed p moment after ≡ lapsed p moment before
same_then p moment before after left =
    let clock : after.clock ≡ max moment before.clock = ap (λ (s : Registry). s.clock) left in
    ap (λ (u : ℕ). lapse p u after) (later moment before.clock after.clock clock) ∙ left
    ∙ now-lapsed p moment before

module _ (p : PolicyRules) (moment : ℕ) (before : Registry) where
  abbrev u : ℕ
  u = max moment before.clock

  abbrev ahead : Registry
  ahead = at u before

  -- nothing of what was to lapse is due afterwards
  settles : (what : Extent) → IsSettledAs p what (dues_lapsed p u (due_in p what u ahead) ahead)
  settles nothing = nothing-due p ahead
  settles (concerning r g) =
      let asked : List Due = due_for p r g u ahead in
      subst (λ (s : Registry). IsSettledIn p (concerned r g s) s) (sym (each-as-some p u asked ahead))
      (caught-up p r g u (chosen asked) ahead (has-concerned p r g u ahead))
  settles everything =
      let is = all-lapsed p u before in ap (now p) is ∙ now-lapsed p moment before ∙ sym is

  passed : (what : Extent) → IsPassed p what moment before
      (dues_lapsed p u (due_in p what u ahead) ahead) u
  passed what = record {
    answer_is = refl;
    clock = ap (λ (s : Registry). s.clock) (each-as-some p u (due_in p what u ahead) ahead);
    settled = settles what;
    future = some-lapsed p u (due_in p what u ahead) before;
    waits = refl;
  }

-- ---- of a book

-- where the clock has moved, and it lapses there, time passes
pub passes : (p : PolicyRules) (what : Extent) (moment clock : ℕ) (old mid new : BookState)
    → IsWithin old mid × (mid.is_clean ≡ true
    → HasMoved moment old.content.registry mid.content.registry clock)
    → BookWrites mid new (with_dues_lapsed p clock (due_in p what clock mid.content.registry)
    mid.content) × BookStays mid new → IsWithin old new × (new.is_clean ≡ true
    → IsPassed p what moment old.content.registry new.content.registry clock)
passes p what moment clock old mid new moved lapses = (
  within-on old mid new moved.0
      (written mid new (with_dues_lapsed p clock (due_in p what clock mid.content.registry)
      mid.content) refl lapses.0 lapses.1),
  λ clean. by clean (moved.1 (lapses.1.clean clean)),
)
  where
    s : Registry
    s = old.content.registry

    by : new.is_clean ≡ true → HasMoved moment s mid.content.registry clock
        → IsPassed p what moment s new.content.registry clock
    by clean is =
        let left : new.content.registry ≡ dues_lapsed p (max moment s.clock)
        (due_in p what (max moment s.clock) (at (max moment s.clock) s))
        (at (max moment s.clock) s) =
        ap (λ (held : Stored). held.registry) (lapses.0.content clean)
        ∙ (λ i. dues_lapsed p (is.answer_is i) (due_in p what (is.answer_is i) (is.left i)) (is.left i))
        in
        rw left (rw is.answer_is (passed p moment s what))

-- ---- commands

pub executed : (p : PolicyRules) (r : ℕ) (c : Command) (moment clock : ℕ) (prepared : Prepared)
    (reply : Reply) (before mid looked after : Registry)
    → IsPassed p (concerning (Some r) (named_by c)) moment before mid clock → looked ≡ mid
    → IsPrepared p r c clock (facts p r c mid) prepared
    → AreChangesMade p prepared.changes prepared.reply looked after reply
    → IsStep p r c moment before after reply
executed p r c moment clock prepared reply before mid looked after is same by made =
    let clock-is : clock ≡ mid.clock = is.answer_is ∙ sym is.clock in
    let answer_is : reply ≡ answer p r c mid =
    made.answer_is ∙ by.reply ∙ ap
    (λ (t : ℕ). reply_of p r c (decided p r t c (facts p r c mid)).verdict
    (account_of r mid).commands) clock-is in
    let left : after ≡ effect p r c mid =
    made.left ∙ (λ i. changed_all p (by.changes i) (same i))
    ∙ ap (λ (t : ℕ). changed_all p (decided p r t c (facts p r c mid)).changes mid) clock-is in
    record {
      answered = answer_is ∙ sym (answer-now p r c mid is.settled) ∙ ap (answer p r c) is.future;
      left = ap (now p) left ∙ effect-now p r c mid is.settled
          ∙ ap (λ (s : Registry). now p (effect p r c s)) is.future;
      waits = left ∙ ap (effect p r c) is.waits;
    }

-- ---- orders

settled-for : (p : PolicyRules) (kind : ObjectKind) (name : Option (List ℕ)) (u : Registry)
    → IsSettledAs p (about_named kind name) u → IsSettledFor p kind name u
settled-for p kind None u is = is
settled-for p kind (Some name) u is = is

due-named : (p : PolicyRules) (kind : ObjectKind) (name : Option (List ℕ)) (t : ℕ) (s : Registry)
    → due_in p (about_named kind name) t s ≡ due_at_name p kind name t s
due-named p kind None t s = refl
due-named p kind (Some name) t s = refl

pub ordered : (p : PolicyRules) (o : StatusOrder) (moment clock : ℕ) (name : Option (List ℕ))
    (before mid after : Registry) (code : Code)
    → name ≡ name_ordered p.zone o → IsPassed p (about_named o.kind name) moment before mid clock
    → IsOrderCarriedOut p (status_at o name mid) mid after code
    → IsOrderStep p (orders.Status o) moment before after code
ordered p o moment clock name before mid after code named is made =
    let settled : IsSettledFor p o.kind (name_ordered p.zone o) mid = subst
    (λ (n : Option (List ℕ)). IsSettledFor p o.kind n mid) named
    (settled-for p o.kind name mid is.settled) in
    let left : after ≡ order_effect p (orders.Status o) mid =
    made.left ∙ ap (λ (n : Option (List ℕ)). changed_all p (status_at o n mid).changes mid) named in
    record {
      answered = made.answer_is ∙ ap (λ (n : Option (List ℕ)). (status_at o n mid).code) named
          ∙ sym (status-answer-now p o mid settled)
          ∙ ap (order_answer p (orders.Status o)) is.future;
      left = ap (now p) left ∙ status-effect-now p o mid settled
          ∙ ap (λ (u : Registry). now p (order_effect p (orders.Status o) u)) is.future;
      waits = left ∙ ap (order_effect p (orders.Status o)) (is.waits
          ∙ (λ i. with_lapsed p (λ t s. due-named p o.kind (named i) t s i) moment before));
    }

pub deposited : (p : PolicyRules) (id : List ℕ) (cents : ℤ) (moment clock : ℕ)
    (before mid after : Registry) (code : Code) → IsPassed p nothing moment before mid clock
    → IsOrderCarriedOut p (deposit_decision p clock id cents) mid after code
    → IsOrderStep p (orders.Deposit id cents) moment before after code
deposited p id cents moment clock before mid after code is made =
    let left : after ≡ order_effect p (orders.Deposit id cents) mid =
    made.left ∙ ap (λ (t : ℕ). changed_all p (deposit_decision p t id cents).changes mid) (is.answer_is ∙ sym is.clock) in
    record {
      answered = made.answer_is ∙ ap (λ (t : ℕ). (deposit_decision p t id cents).code) is.answer_is;
      left = ap (now p) left ∙ deposit-effect-now p mid id cents
          ∙ ap (λ (u : Registry). now p (order_effect p (orders.Deposit id cents) u)) is.future;
      waits = left ∙ ap (order_effect p (orders.Deposit id cents)) is.waits;
    }

-- ---- hello

pub greets : (p : PolicyRules) (moment : ℕ) (result : Result ℕ BookFault) (old new : BookState)
    → Works result (IsPassed p nothing moment) old new → Works result (IsGreetingStep p moment) old new
greets p moment (Ok date) old new works = (works.0, λ clean. by (works.1 clean))
  where
    by : IsPassed p nothing moment old.content.registry new.content.registry date → IsGreetingStep p moment old.content.registry new.content.registry date
    by is = record { dated = is.answer_is; left = is.future ∙ sym (now-lapsed p moment old.content.registry); waits = is.waits }
greets p moment (Err fault) old new works = works

-- ---- look-ups

module _ {X : Type 0} (p : PolicyRules) (find : Registry → X) (what : Extent) (moment clock : ℕ)
    (before mid : Registry) (is : IsPassed p what moment before mid clock) where
  pub looked-up : find (now p mid) ≡ find mid
      → IsLookUp p find (lapsing p what) moment before mid (find mid)
  looked-up is_at = record {
    answer_is = sym is_at ∙ ap find is.future;
    left = is.future ∙ sym (now-lapsed p moment before);
    waits = is.waits;
  }
