-- What a registrar learns of what is hidden, over whole runs: nothing.
use Rattle.std.specs.Prelude.{◌≡◌, ℕ, true, false, List}
use Rattle.model.specs.Lapse.{lapsed, now}
use Rattle.model.specs.Registry.{Registry}
use Rattle.policy.specs.Rules.{PolicyRules}
use Rattle.isolation.specs.Public.{public_part}
use Rattle.isolation.specs.Alike.{Pair, AreAlikeInTurn, IsAlike, first, firsts, second, seconds, touched_by}
use Rattle.isolation.specs.Redaction.{Objects, AreOne}
use Rattle.isolation.specs.Runs.{Answer, Question, answer_to, effect_of, is_asked_by, left_after, left_by_question, answers_to}

-- ---- one call

-- The registrar is answered alike in another registry, by another question, and what both leave is one but
-- for what is touched then.
pub record GoOnAlike (p : PolicyRules) (r : ℕ) (touched : Objects) (moment : ℕ) (pair : Pair) (before after : Registry) (a : Answer) (other : Registry) : Type 0 where
  pub left : AreOne r (touched_by p pair (lapsed p moment before) touched) (now p after)
      (now p (left_by_question p (moment, second pair) other))
  pub answer_is : is_asked_by r (first pair) ≡ true
      → a ≡ answer_to p (second pair) (lapsed p moment other)

-- A question was answered at a moment, and one registry became another. Whoever the registrar is, whatever
-- was touched, and whatever the other registry and its question are: if the registries were one but for
-- that, and the questions are alike, then they go on alike.
pub record IsStepOfTwo (p : PolicyRules) (moment : ℕ) (x : Question) (before after : Registry) (a : Answer) : Type 0 where
  pub alike : (r : ℕ) (touched : Objects) (pair : Pair) (other : Registry) → first pair ≡ x
      → AreOne r touched (now p before) (now p other)
      → IsAlike p r touched pair (lapsed p moment before) (lapsed p moment other)
      → GoOnAlike p r touched moment pair before after a other

-- ---- whole runs

-- no object
abbrev pub none : Objects
none roid = false

-- From this registry on, alike lists tell each registrar the same.
abbrev pub TellsAlike : PolicyRules → Registry → Type 0
TellsAlike p s =
    (r : ℕ) (pairs : List (ℕ × Pair)) → AreAlikeInTurn p r none pairs s s
    → answers_to p r (firsts pairs) s ≡ answers_to p r (seconds pairs) s

-- ---- the laws

-- what is answered and left by the rules is a step of two
abbrev pub CallsAreStepsOfTwo : Type 0
CallsAreStepsOfTwo =
    (p : PolicyRules) (moment : ℕ) (x : Question) (before after : Registry) (a : Answer)
    → a ≡ answer_to p x (lapsed p moment before)
    → now p after ≡ now p (effect_of p x (lapsed p moment before))
    → IsStepOfTwo p moment x before after a

abbrev pub AlikeListsTellTheSame : Type 0
AlikeListsTellTheSame = (p : PolicyRules) (s : Registry) → TellsAlike p s

-- and leave, at any moment, what everybody may look up the same
abbrev pub AlikeListsShowTheSame : Type 0
AlikeListsShowTheSame =
    (p : PolicyRules) (r : ℕ) (pairs : List (ℕ × Pair)) (s : Registry) (moment : ℕ)
    → AreAlikeInTurn p r none pairs s s
    → public_part p (lapsed p moment (left_after p (firsts pairs) s))
    ≡ public_part p (lapsed p moment (left_after p (seconds pairs) s))
