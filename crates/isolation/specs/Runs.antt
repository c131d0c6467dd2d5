-- What a registry is asked, one thing after another.
use Rattle.std.specs.Prelude.{◌≡◌, ℕ, Bool, true, false, ◌==◌, List, [], ◌∷◌, if◌then◌else◌}
use Rattle.model.specs.Lapse.{lapsed, now}
use Rattle.model.specs.Registry.{Registry}
use Rattle.policy.specs.Rules.{PolicyRules}
use Rattle.protocol.specs.declared.code.Code.{Code}
use Rattle.protocol.specs.declared.command.Command.{Command}
use Rattle.protocol.specs.declared.order.Order.{Order}
use Rattle.protocol.specs.declared.reply.Reply.{Reply}
use Rattle.decisions.specs.Orders.{order_answer, order_effect}
use Rattle.decisions.specs.Steps.{answer, effect}
use Rattle.isolation.specs.Public.{PublicPart, public_part}

-- ---- one call

-- A registrar's command (RFC 5730, 2.5), an order of the operator, the date of a greeting (RFC 5730,
-- 2.4), a look-up of what everybody may know, or an inspection, which the operator alone makes.
pub data Question : Type 0 where
  command : ℕ → Command → Question
  order : Order → Question
  date : Question
  look_up : Question
  inspection : Question

-- A look-up is answered by the public part of the registry, whatever it looks for there, and an
-- inspection by all of it.
pub data Answer : Type 0 where
  reply : Reply → Answer
  code : Code → Answer
  dated : ℕ → Answer
  shown : PublicPart → Answer
  inspected : Registry → Answer

-- what is answered in a registry as the call finds it
abbrev pub answer_to : PolicyRules → Question → Registry → Answer
answer_to p (command r c) s = reply (answer p r c s)
answer_to p (order o) s = code (order_answer p o s)
answer_to p date s = dated s.clock
answer_to p look_up s = shown (public_part p s)
answer_to p inspection s = inspected s

-- what the call leaves of it
abbrev pub effect_of : PolicyRules → Question → Registry → Registry
effect_of p (command r c) s = effect p r c s
effect_of p (order o) s = order_effect p o s
effect_of p _ s = s

-- The answer is that of the registry at the moment of the call, and what is left is the effect there.
pub record IsCall (p : PolicyRules) (moment : ℕ) (q : Question) (before after : Registry) (a : Answer) : Type 0 where
  pub answered : a ≡ answer_to p q (lapsed p moment before)
  pub left : now p after ≡ now p (effect_of p q (lapsed p moment before))

-- ---- a run

-- a registrar may have asked this: who says hello or looks something up isn't known
abbrev pub is_asked_by : ℕ → Question → Bool
is_asked_by r (command q c) = q == r
is_asked_by r (order o) = false
is_asked_by r date = true
is_asked_by r look_up = true
is_asked_by r inspection = false

-- what a question at a moment leaves
abbrev pub left_by_question : PolicyRules → ℕ × Question → Registry → Registry
left_by_question p x s = effect_of p x.1 (lapsed p x.0 s)

-- and one after another
abbrev pub left_after : PolicyRules → List (ℕ × Question) → Registry → Registry
left_after p [] s = s
left_after p (x ∷ xs) s = left_after p xs (left_by_question p x s)

-- what a registrar is answered, in a run from a registry on
abbrev pub answers_to : PolicyRules → ℕ → List (ℕ × Question) → Registry → List Answer
answers_to p r [] s = []
answers_to p r (x ∷ xs) s =
    let more : List Answer = answers_to p r xs (left_by_question p x s) in
    if is_asked_by r x.1 then answer_to p x.1 (lapsed p x.0 s) ∷ more else more
