-- Alike lists tell a registrar the same, and leave everybody the same to look up.
use Rattle.std.proofs.Common.{◌≡◌, ℕ, max, Bool, true, false, cond, List, [], ◌∷◌, refl, sym, ap, ap₂, ◌∙◌, arith}
use Rattle.model.specs.Lapse.{lapse, lapsed, now}
use Rattle.model.proofs.LapseLaws.{lapses-on}
use Rattle.isolation.specs.Laws.{AlikeListsShowTheSame, AlikeListsTellTheSame, CallsAreStepsOfTwo, none}
use Rattle.isolation.specs.Runs.{Answer, Question, answer_to, effect_of, is_asked_by, left_after, left_by_question, answers_to}
use Rattle.isolation.proofs.{OwnLemmas.same-public, StepLemmas.pairs-step, RedactionLemmas.same-clock}
use Rattle.isolation.proofs.TimeLemmas.{lapse-alike, lapsed-alike}
use Rattle.isolation.proofs.Words.{Registry, PolicyRules, AreAlikeInTurn, Pair, first, firsts, same, second, seconds, touched_by, Objects}
use Rattle.isolation.proofs.Words.{AreOne, redacted}

same-asker : (r : ℕ) (pair : Pair) → is_asked_by r (first pair) ≡ is_asked_by r (second pair)
same-asker r (same x) = refl
same-asker r pair = refl

told-by : (b : Bool) (x y : Answer) (xs ys : List Answer) → (b ≡ true → x ≡ y) → xs ≡ ys → cond b (x ∷ xs) xs ≡ cond b (y ∷ ys) ys
told-by true x y xs ys answered more = ap₂ (λ (a : Answer) (rest : List Answer). a ∷ rest) (answered refl) more
told-by false x y xs ys answered more = more

lists-tell : (p : PolicyRules) (r : ℕ) (touched : Objects) (pairs : List (ℕ × Pair)) (s t : Registry) → AreOne r touched s t → AreAlikeInTurn p r touched pairs s t → answers_to p r (firsts pairs) s ≡ answers_to p r (seconds pairs) t
lists-tell p r touched [] s t one alike = refl
lists-tell p r touched (pair ∷ pairs) s t one alike =
    let found : AreOne r touched (lapsed p pair.0 s) (lapsed p pair.0 t) = lapsed-alike p r touched pair.0 s t one in
    let step = pairs-step p r touched pair.1 (lapsed p pair.0 s) (lapsed p pair.0 t) found alike.0 in
    told-by (is_asked_by r (first pair.1)) _ _ _ _ step.1
    (lists-tell p r (touched_by p pair.1 (lapsed p pair.0 s) touched) pairs (left_by_question p (pair.0, first pair.1) s) (left_by_question p (pair.0, second pair.1) t) step.0 alike.1)
    ∙ ap (λ (b : Bool). cond b (answer_to p (second pair.1) (lapsed p pair.0 t) ∷ answers_to p r (seconds pairs) (left_by_question p (pair.0, second pair.1) t)) (answers_to p r (seconds pairs) (left_by_question p (pair.0, second pair.1) t))) (same-asker r pair.1)

pub alike-lists-tell-the-same : AlikeListsTellTheSame
alike-lists-tell-the-same p s r pairs alike = lists-tell p r none pairs s s refl alike

-- what they leave is one but for what was touched
lists-leave : (p : PolicyRules) (r : ℕ) (touched : Objects) (pairs : List (ℕ × Pair)) (s t : Registry) → AreOne r touched s t → AreAlikeInTurn p r touched pairs s t
    → (more : Objects) × AreOne r more (left_after p (firsts pairs) s) (left_after p (seconds pairs) t)
lists-leave p r touched [] s t one alike = (touched, one)
lists-leave p r touched (pair ∷ pairs) s t one alike =
    let step = pairs-step p r touched pair.1 (lapsed p pair.0 s) (lapsed p pair.0 t) (lapsed-alike p r touched pair.0 s t one) alike.0 in
    lists-leave p r (touched_by p pair.1 (lapsed p pair.0 s) touched) pairs (left_by_question p (pair.0, first pair.1) s) (left_by_question p (pair.0, second pair.1) t) step.0 alike.1

pub alike-lists-show-the-same : AlikeListsShowTheSame
alike-lists-show-the-same p r pairs s moment alike =
    let left = lists-leave p r none pairs s s refl alike in
    same-public p r left.0 _ _ (lapsed-alike p r left.0 moment _ _ left.1)

-- ---- one call

module _ (p : PolicyRules) (r : ℕ) (touched : Objects) where
  now-alike : (s t : Registry) → AreOne r touched s t → AreOne r touched (now p s) (now p t)
  now-alike s t one = lapse-alike p r touched s.clock s t one ∙ ap (λ (clock : ℕ). redacted r touched (lapse p clock t)) (same-clock r touched s t one)

  -- what is one now is one at a later moment
  found-alike : (moment : ℕ) (s t : Registry) → AreOne r touched (now p s) (now p t) → AreOne r touched (lapsed p moment s) (lapsed p moment t)
  found-alike moment s t one =
      let clocks : s.clock ≡ t.clock = same-clock r touched (now p s) (now p t) one in
      ap (redacted r touched) (sym (lapses-on p s.clock (max moment s.clock) (omega arith) s))
      ∙ lapse-alike p r touched (max moment s.clock) (now p s) (now p t) one
      ∙ ap (redacted r touched) (lapses-on p t.clock (max moment s.clock) (omega (arith, clocks)) t)
      ∙ ap (λ (clock : ℕ). redacted r touched (lapse p (max moment clock) t)) clocks

pub calls-are-steps-of-two : CallsAreStepsOfTwo
calls-are-steps-of-two p moment x before after a answered left = record {
  alike = λ r touched pair other is one alike.
      let found : AreOne r touched (lapsed p moment before) (lapsed p moment other) = found-alike p r touched moment before other one in
      let step = pairs-step p r touched pair (lapsed p moment before) (lapsed p moment other) found alike in
      record {
        left =
            ap (redacted r (touched_by p pair (lapsed p moment before) touched)) (left ∙ ap (λ (y : Question). now p (effect_of p y (lapsed p moment before))) (sym is))
            ∙ now-alike p r (touched_by p pair (lapsed p moment before) touched) _ _ step.0;
        answer_is = λ asks. answered ∙ ap (λ (y : Question). answer_to p y (lapsed p moment before)) (sym is) ∙ step.1 asks;
      };
}
