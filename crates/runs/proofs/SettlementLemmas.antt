-- Settlements between calls change no answer.
use Rattle.std.proofs.Common.{◌≡◌, ◌≤◌, ℕ, max, Bool, true, false, List, [], ◌∷◌, refl, sym, ap, subst, ◌∙◌, arith}
use Rattle.model.specs.{Lapse.{lapse, lapsed, now}, Registry.Registry}
use Rattle.model.proofs.LapseLaws.{have-one-future, lapses-on}
use Rattle.policy.specs.Rules.{PolicyRules}
use Rattle.registry.specs.Execution.{IsSettlement}
use Rattle.isolation.specs.Runs.{Answer, IsCall, Question, answer_to, effect_of}
use Rattle.runs.specs.Runs.{RunTurn, Follow, IsLaterRegistry, IsRun, answers_of, call, questions_of, settlement, settles_last}
use Rattle.runs.specs.RunLaws.{AnswersAreDetermined, SettlementsGoUnnoticed, SettlementsMayBeLeftOut}

is-later-itself : (p : PolicyRules) (s : Registry) → IsLaterRegistry p s s
is-later-itself p s = record { clock = omega arith; future = λ t late. refl }

-- a settlement leaves a later registry
settled-later : (p : PolicyRules) (moment at_most done : ℕ) (left before between : Registry) → IsLaterRegistry p left before → IsSettlement p moment at_most before between done
    → IsLaterRegistry p left between × (between.clock ≡ max moment before.clock)
settled-later p moment at_most done left before between later settled = (record { clock = omega (arith, later.clock, clock-is); future = future }, clock-is)
  where
    u : ℕ
    u = max moment before.clock

    clock-is : between.clock ≡ u
    clock-is = ap (λ (s : Registry). s.clock) settled.unnoticed

    future : (t : ℕ) → between.clock ≤ t → lapse p t between ≡ lapse p t left
    future t late =
        sym (lapses-on p between.clock t late between)
        ∙ ap (lapse p t) settled.unnoticed
        ∙ lapses-on p u t (omega (arith, clock-is, late)) before
        ∙ later.future t (omega (arith, clock-is, late))

-- a call that isn't earlier finds the same registry
same-found : (p : PolicyRules) (moment : ℕ) (left before : Registry) → IsLaterRegistry p left before → before.clock ≤ max moment left.clock → lapsed p moment before ≡ lapsed p moment left
same-found p moment left before later early =
    ap (λ (t : ℕ). lapse p t before) clock-is ∙ later.future (max moment left.clock) early
  where
    clock-is : max moment before.clock ≡ max moment left.clock
    clock-is = omega (arith, later.clock, early)

same-call : (p : PolicyRules) (moment : ℕ) (q : Question) (a : Answer) (left before after : Registry) → lapsed p moment before ≡ lapsed p moment left → IsCall p moment q before after a → IsCall p moment q left after a
same-call p moment q a left before after same called = record {
  answered = called.answered ∙ ap (answer_to p q) same;
  left = called.left ∙ ap (λ (s : Registry). now p (effect_of p q s)) same;
}

-- what is left of a run without its settlements
record LeftOut (p : PolicyRules) (last : Bool) (turns : List RunTurn) (before after : Registry) : Type 0 where
  pub left : Registry
  pub run : IsRun p (questions_of turns) (answers_of turns) before left
  pub later : IsLaterRegistry p left after
  pub same : settles_last last turns ≡ false → left ≡ after

left-out : (p : PolicyRules) (last : Bool) (turns : List RunTurn) (left : Registry) (latest : ℕ) (before after : Registry) → IsLaterRegistry p left before → before.clock ≤ max latest left.clock → (last ≡ false → left ≡ before)
    → Follow p left latest turns before after → LeftOut p last turns left after
left-out p last [] left latest before after later bound same follow = record {
  left = left;
  run = (refl, refl);
  later = subst (IsLaterRegistry p left) (sym follow) later;
  same = λ e. same e ∙ sym follow;
}
left-out p last (call moment q a ∷ turns) left latest before after later bound same follow =
    let between : Registry = follow.1 in
    let found : lapsed p moment before ≡ lapsed p moment left = same-found p moment left before later (omega (arith, bound, follow.0)) in
    let rest : LeftOut p false turns between after = left-out p false turns between 0 between after (is-later-itself p between) (omega arith) (λ e. refl) follow.3 in
    record {
      left = rest.left;
      run = (a, answers_of turns, between, refl, same-call p moment q a left before between found follow.2, rest.run);
      later = rest.later;
      same = rest.same;
    }
left-out p last (settlement moment at_most done ∷ turns) left latest before after later bound same follow =
    let between : Registry = follow.0 in
    let next : IsLaterRegistry p left between × (between.clock ≡ max moment before.clock) = settled-later p moment at_most done left before between later follow.1 in
    let rest : LeftOut p true turns left after = left-out p true turns left (max moment latest) between after next.0 (omega (arith, next.1, bound)) (λ e. let never : true ≡ false = e in cc) follow.2 in
    record { left = rest.left; run = rest.run; later = rest.later; same = rest.same }

pub settlements-may-be-left-out : SettlementsMayBeLeftOut
settlements-may-be-left-out p turns before after follow =
    let is : LeftOut p false turns before after = left-out p false turns before 0 before after (is-later-itself p before) (omega arith) (λ e. refl) follow in
    (is.left, is.run, is.later, is.same)

-- ---- the same questions

same-clock : (p : PolicyRules) (x y : Registry) → now p x ≡ now p y → x.clock ≡ y.clock
same-clock p x y same = ap (λ (s : Registry). s.clock) same

pub found-alike : (p : PolicyRules) (moment : ℕ) (x y : Registry) → now p x ≡ now p y → lapsed p moment x ≡ lapsed p moment y
found-alike p moment x y same =
    have-one-future p x y (max moment x.clock) same (omega arith) ∙ ap (λ (c : ℕ). lapse p (max moment c) y) (same-clock p x y same)

left-alike : (p : PolicyRules) (moment : ℕ) (q : Question) (a b : Answer) (s t x y : Registry) → now p s ≡ now p t → IsCall p moment q s x a → IsCall p moment q t y b → (a ≡ b) × (now p x ≡ now p y)
left-alike p moment q a b s t x y same one other =
    let found : lapsed p moment s ≡ lapsed p moment t = found-alike p moment s t same in
    (one.answered ∙ ap (answer_to p q) found ∙ sym other.answered, one.left ∙ ap (λ (r : Registry). now p (effect_of p q r)) found ∙ sym other.left)

pub answers-are-determined : AnswersAreDetermined
answers-are-determined p [] xs ys s t x y same one other = (one.0 ∙ sym other.0, ap (now p) one.1 ∙ same ∙ sym (ap (now p) other.1))
answers-are-determined p (asked ∷ others) xs ys s t x y same (a, more, u, first, called, rest) (b, others2, v, second, called2, rest2) =
    let here : (a ≡ b) × (now p u ≡ now p v) = left-alike p asked.0 asked.1 a b s t u v same called called2 in
    let there : (more ≡ others2) × (now p x ≡ now p y) = answers-are-determined p others more others2 u v x y here.1 rest rest2 in
    (first ∙ (λ i. here.0 i ∷ there.0 i) ∙ sym second, there.1)

pub settlements-go-unnoticed : SettlementsGoUnnoticed
settlements-go-unnoticed p xs ys s t x y same follow follow2 asked =
    (alike.0, future, λ e f. ap (now p) (sym (one.same e)) ∙ alike.1 ∙ ap (now p) (other.same f))
  where
    one : LeftOut p false xs s x
    one = left-out p false xs s 0 s x (is-later-itself p s) (omega arith) (λ e. refl) follow

    other : LeftOut p false ys t y
    other = left-out p false ys t 0 t y (is-later-itself p t) (omega arith) (λ e. refl) follow2

    alike : (answers_of xs ≡ answers_of ys) × (now p one.left ≡ now p other.left)
    alike = answers-are-determined p (questions_of ys) (answers_of xs) (answers_of ys) s t one.left other.left same (subst (λ qs. IsRun p qs (answers_of xs) s one.left) asked one.run) other.run

    future : (u : ℕ) → x.clock ≤ u → y.clock ≤ u → lapse p u x ≡ lapse p u y
    future u late late2 =
        one.later.future u late
        ∙ have-one-future p one.left other.left u alike.1 (omega (arith, one.later.clock, late))
        ∙ sym (other.later.future u late2)
