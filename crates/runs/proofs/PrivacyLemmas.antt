-- Runs of alike lists tell a registrar the same, and leave everybody the same to look up.
use Rattle.std.proofs.Common.{◌≡◌, ℕ, cond, List, [], ◌∷◌, refl, sym, ap, ◌∙◌}
use Rattle.model.specs.{Lapse.{lapsed, now}, Registry.Registry}
use Rattle.policy.specs.Rules.{PolicyRules}
use Rattle.isolation.specs.{Alike.{firsts, seconds}, Public.public_part}
use Rattle.isolation.specs.Runs.{Answer, Question, answer_to, effect_of, is_asked_by, left_after, left_by_question, answers_to}
use Rattle.isolation.proofs.RunLemmas.{alike-lists-show-the-same, alike-lists-tell-the-same}
use Rattle.runs.specs.{Runs.{IsRun, answers_for}, RunLaws.{AlikeRunsShowTheSame, AlikeRunsTellTheSame}}
use Rattle.runs.proofs.SettlementLemmas.{found-alike}

-- what a run answers is what its list tells, from whatever is the same now
tells-as-listed : (p : PolicyRules) (r : ℕ) (questions : List (ℕ × Question)) (answers : List Answer) (s t x : Registry) → now p s ≡ now p t → IsRun p questions answers s x → answers_for r questions answers ≡ answers_to p r questions t
tells-as-listed p r [] answers s t x same run = refl
tells-as-listed p r (asked ∷ others) answers s t x same (first, rest, between, is, called, more) =
    let found : lapsed p asked.0 s ≡ lapsed p asked.0 t = found-alike p asked.0 s t same in
    let left : now p between ≡ now p (left_by_question p asked t) = called.left ∙ ap (λ (l : Registry). now p (effect_of p asked.1 l)) found in
    ap (answers_for r (asked ∷ others)) is
    ∙ (λ i. cond (is_asked_by r asked.1) ((called.answered ∙ ap (answer_to p asked.1) found) i ∷ tells-as-listed p r others rest between (left_by_question p asked t) x left more i) (tells-as-listed p r others rest between (left_by_question p asked t) x left more i))

pub alike-runs-tell-the-same : AlikeRunsTellTheSame
alike-runs-tell-the-same p r pairs xs ys s x y alike one other =
    tells-as-listed p r (firsts pairs) xs s s x refl one ∙ alike-lists-tell-the-same p s r pairs alike ∙ sym (tells-as-listed p r (seconds pairs) ys s s y refl other)

-- what a run leaves is now what its list leaves, from whatever is the same now
left-as-listed : (p : PolicyRules) (questions : List (ℕ × Question)) (answers : List Answer) (s t x : Registry) → now p s ≡ now p t → IsRun p questions answers s x → now p x ≡ now p (left_after p questions t)
left-as-listed p [] answers s t x same run = ap (now p) run.1 ∙ same
left-as-listed p (asked ∷ others) answers s t x same (first, rest, between, is, called, more) =
    left-as-listed p others rest between (left_by_question p asked t) x (called.left ∙ ap (λ (l : Registry). now p (effect_of p asked.1 l)) (found-alike p asked.0 s t same)) more

pub alike-runs-show-the-same : AlikeRunsShowTheSame
alike-runs-show-the-same p r pairs xs ys s x y moment alike one other =
    ap (public_part p) (found-alike p moment x _ (left-as-listed p (firsts pairs) xs s s x refl one))
    ∙ alike-lists-show-the-same p r pairs s moment alike
    ∙ sym (ap (public_part p) (found-alike p moment y _ (left-as-listed p (seconds pairs) ys s s y refl other)))
