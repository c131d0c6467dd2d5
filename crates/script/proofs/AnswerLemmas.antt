-- What a registrar is answered, and the operator, as a script prints it.
use Rattle.std.proofs.Common.{◌≡◌, ◌⊎◌, ◌≤◌, inl, inr, ℕ, Bool, true, false, cond, List, [], Some, None, IfSome, refl, sym, ap, subst, ◌∙◌}
use Rattle.std.specs.Prelude.{Option}
use Rattle.eppcommands.specs.{Order.order_in, Session.in_session}
use Rattle.eppreplies.specs.{Answer.answer_text, Greeting.greeting_text, Reply.reply_text}
use Rattle.eppwire.specs.Answers.{AnswersRegistrar, AnswersSaid, IsSentOrLost, is_last}
use Rattle.eppwire.specs.Answers as wire
use Rattle.frames.specs.{Outcomes.{Outcome, ended, failed, lost, outcome_of, replied}, Texts.failed_text, declared.peer.Answer.Answer}
use Rattle.policy.specs.Rules.{PolicyRules}
use Rattle.protocol.specs.declared.{code.Code.{Code, TheVariants.Completed}, order.OperatorRequest.OperatorRequest}
use Rattle.protocol.specs.declared.session.InSession.{InSession, TheVariants.{Hello, Ordinary}}
use Rattle.protocol.specs.declared.order.OperatorRequest.TheVariants as requests
use Rattle.registry.specs.Execution.{last_call}
use Rattle.script.specs.{Deposits.IsAnsweredBy, Runs.{Answers, GivesUp, IsPayloadAnswered, OperatorSteps, SaidSteps, kept}}
use Rattle.script.specs.{declared.line.Sender.{Sender, TheVariants.{Registrar, Operator}}, Lines.{Asked, IsLine, registrar_of}}
use Rattle.script.specs.inner.Runs.{IsAnsweredOperator, TextOf, printed_text}
use Rattle.books.specs.Book.{BookState, Stored}
use Rattle.model.specs.Registry.{Registry}

-- ---- a registrar

told_reply : (P : List ℕ → Type 0) (last : Bool) (text : List ℕ) → P text → TextOf P (cond last (ended text) (replied text))
told_reply P true text holds = holds
told_reply P false text holds = holds

abbrev number_in : Option ℕ → ℕ
number_in (Some n) = n
number_in None = 0

module _ (p : PolicyRules) (r moment : ℕ) (old : BookState) (outcome : Outcome) (new : BookState) where
  -- what is printed, if nothing wrong was taken from what keeps the book
  abbrev IsPrinted : (List ℕ → Type 0) → Type 0
  IsPrinted P = TextOf (λ text. new.is_clean ≡ true → P text) outcome

  printed : (P : List ℕ → Type 0) (wanted : Outcome) (text : List ℕ) → TextOf (λ text. new.is_clean ≡ true → P text) wanted → IsSentOrLost wanted outcome → (new.is_clean ≡ true → P text) → IsPrinted P
  printed P wanted text told (inl e) holds = subst (TextOf (λ text. new.is_clean ≡ true → P text)) (sym e) told
  printed P wanted text told (inr e) holds = subst (TextOf (λ text. new.is_clean ≡ true → P text)) (sym e) (text, holds)

  abbrev IsSaid : InSession → List ℕ → Type 0
  IsSaid words text = GivesUp (kept old) (kept new) text ⊎ SaidSteps p r words moment (kept old) (kept new) text

  gave_up : (words : InSession) → wire.FailsToAnswer old outcome new → IsPrinted (IsSaid words)
  gave_up words gives = subst (TextOf (λ text. new.is_clean ≡ true → IsSaid words text)) (sym gives.0)
      (λ clean. inl (record { same = ap (λ (s : Stored). s.registry) (gives.1.content clean); fixed = refl }))

  said : (words : InSession) → AnswersSaid p r words moment old outcome new → IsPrinted (IsSaid words)
  said Hello (inl gives) = gave_up Hello gives
  said Hello (inr greeted) =
      let holds : new.is_clean ≡ true → IsSaid Hello (greeting_text greeted.date) =
      λ clean. inr (record { date = greeted.date; early = greeted.early; step = greeted.step clean; written = refl }) in
      printed (IsSaid Hello) _ (greeting_text greeted.date) holds greeted.answer_is holds
  said (Ordinary c) (inl gives) = gave_up (Ordinary c) gives
  said (Ordinary c) (inr served) =
      let holds : new.is_clean ≡ true → IsSaid (Ordinary c) (reply_text served.reply) =
      λ clean. inr (record { reply = served.reply; early = served.early; step = served.step clean; written = refl }) in
      printed (IsSaid (Ordinary c)) _ (reply_text served.reply) (told_reply (λ text. new.is_clean ≡ true → IsSaid (Ordinary c) text) (is_last served.reply.code) (reply_text served.reply) holds) served.answer_is holds

  answered : (payload : List ℕ) → AnswersRegistrar p r payload moment old outcome new → IsPrinted (IsPayloadAnswered p (Registrar r) payload moment (kept old) (kept new))
  answered payload (inl gives) = gave_up (in_session payload) gives
  answered payload (inr words) = said (in_session payload) words

  -- the same of a sender that is this registrar
  pub registrar_answered : (sender : Sender) (payload : List ℕ) → Some r ≡ registrar_of sender → AnswersRegistrar p r payload moment old outcome new
      → IsPrinted (IsPayloadAnswered p sender payload moment (kept old) (kept new))
  registrar_answered (Registrar q) payload is answers =
      subst (λ (o : ℕ). IsPrinted (IsPayloadAnswered p (Registrar o) payload moment (kept old) (kept new))) (ap (λ (o : Option ℕ). number_in o) is) (answered payload answers)
  registrar_answered Operator payload is answers = absurd cc

-- ---- the operator

pub operator_steps : (p : PolicyRules) (request : OperatorRequest) (moment : ℕ) (code : Code) (lapsed : Option ℕ) (old new : BookState) (text : List ℕ)
    → IsAnsweredBy p request moment code lapsed old new → moment ≤ last_call → text ≡ answer_text code lapsed → new.is_clean ≡ true → OperatorSteps p request moment (kept old) (kept new) text
operator_steps p (requests.Order order) moment code lapsed old new text (step, none) early is clean =
    record { code = code; early = early; step = step clean; written = is ∙ ap (answer_text code) none }
operator_steps p (requests.Settle at_most) moment code lapsed old new text (completed, done, step, some) early is clean = record {
  done = done;
  early = early;
  step = step clean;
  written = is ∙ ap (λ (c : Code). answer_text c lapsed) completed ∙ ap (answer_text Completed) some;
}

operator_answered : (p : PolicyRules) (request : OperatorRequest) (payload : List ℕ) (moment : ℕ) (before after : Registry) (text : List ℕ) → order_in payload ≡ Some request
    → IsAnsweredOperator p request moment before after text → IsPayloadAnswered p Operator payload moment before after text
operator_answered p request payload moment before after text is (inl gives) = inl gives
operator_answered p request payload moment before after text is (inr steps) = inr (request, is, steps)

-- ---- a line

TextOf-weaker : (o : Outcome) (P Q : List ℕ → Type 0) → ((text : List ℕ) → P text → Q text) → TextOf P o → TextOf Q o
TextOf-weaker (replied reply) P Q more holds = more reply holds
TextOf-weaker (ended reply) P Q more holds = more reply holds
TextOf-weaker failed P Q more holds = more failed_text holds
TextOf-weaker lost P Q more (text, holds) = (text, more text holds)

pub order_answered : (sender : Sender) (p : PolicyRules) (request : OperatorRequest) (payload : List ℕ) (moment : ℕ) (before after : Registry) (o : Outcome) (A : Type 0) → None ≡ registrar_of sender → order_in payload ≡ Some request
    → TextOf (λ text. A → IsAnsweredOperator p request moment before after text) o → TextOf (λ text. A → IsPayloadAnswered p sender payload moment before after text) o
order_answered (Registrar r) p request payload moment before after o A none is holds = absurd cc
order_answered Operator p request payload moment before after o A none is holds =
    TextOf-weaker o _ _ (λ text answered given. operator_answered p request payload moment before after text is (answered given)) holds

pub line_answered : (result : Option Answer) (p q : PolicyRules) (line : List ℕ) (it : Asked) (before after : Registry) (A : Type 0) → q ≡ p → IsLine q line it
    → IfSome result (λ answer. TextOf (λ text. A → IsPayloadAnswered p it.sender it.payload it.moment before after text) (outcome_of answer))
    → IfSome result (λ answer. TextOf (λ text. A → Answers p line before after text) (outcome_of answer))
line_answered None p q line it before after A same form holds = tt
line_answered (Some answer) p q line it before after A same form holds =
    TextOf-weaker (outcome_of answer) _ _ (λ text answered given. record { asked = it; form = subst (λ (r : PolicyRules). IsLine r line it) same form; answered = answered given }) holds

abbrev text_in : Option (List ℕ) → List ℕ
text_in (Some text) = text
text_in None = []

pub by_told : (o : Outcome) (text : List ℕ) (P : List ℕ → Type 0) → Some text ≡ printed_text o → TextOf P o → P text
by_told (replied reply) text P is holds = subst P (sym (ap text_in is)) holds
by_told (ended reply) text P is holds = subst P (sym (ap text_in is)) holds
by_told failed text P is holds = subst P (sym (ap text_in is)) holds
by_told lost text P is holds = absurd cc

pub lost_told : (o : Outcome) (P : List ℕ → Type 0) → None ≡ printed_text o → TextOf P o → (text : List ℕ) × P text
lost_told (replied reply) P is holds = absurd cc
lost_told (ended reply) P is holds = absurd cc
lost_told failed P is holds = absurd cc
lost_told lost P is holds = holds
