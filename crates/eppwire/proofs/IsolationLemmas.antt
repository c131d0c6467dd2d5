-- What a registrar is sent hangs on nothing that it may not see.
use Rattle.std.proofs.Common.{◌≡◌, ◌⊎◌, inl, inr, ℕ, Bool, true, false, cond, List, refl, sym, ap, ◌∙◌}
use Rattle.eppcommands.specs.Session.{in_session}
use Rattle.frames.specs.{Texts.closing_text, Outcomes.{Outcome, replied, ended, framed, has_frame, sent}}
use Rattle.eppreplies.specs.{Greeting.greeting_text, Reply.reply_text}
use Rattle.model.specs.{Lapse.lapsed, Registry.Registry, View.View}
use Rattle.policy.specs.Rules.{PolicyRules}
use Rattle.protocol.specs.declared.session.InSession.{InSession, TheVariants.{Hello, Ordinary}}
use Rattle.decisions.specs.Steps.{answer}
use Rattle.books.specs.Book.{BookState}
use Rattle.eppwire.specs.Answers.{AnswersSaid, IsSentOrLost, greeting_outcome, is_last, reply_outcome}
use Rattle.eppwire.specs.Isolation.{FramesAreIsolated, IsFixed, text_sent, view_saying}

framed_is : (text : List ℕ) (fits : Bool) → IsFixed (cond fits text closing_text) ⊎ (cond fits text closing_text ≡ text)
framed_is text true = inr refl
framed_is text false = inl (inr refl)

-- what is sent where a text was to be sent
sent-text : (wanted outcome : Outcome) (text : List ℕ) → IsSentOrLost wanted outcome → sent wanted ≡ framed text → IsFixed (sent outcome) ⊎ (sent outcome ≡ text)
sent-text wanted outcome text (inl e) s = rw (e, s) (framed_is text (has_frame text))
sent-text wanted outcome text (inr e) s = inl (inr (ap sent e))

reply_sent : (last : Bool) (text : List ℕ) → sent (cond last (ended text) (replied text)) ≡ framed text
reply_sent true text = refl
reply_sent false text = refl

same_text : (a b x : List ℕ) → a ≡ b → IsFixed x ⊎ (x ≡ a) → IsFixed x ⊎ (x ≡ b)
same_text a b x e (inl fixed) = inl fixed
same_text a b x e (inr is) = inr (is ∙ e)

said_isolated : (p : PolicyRules) (r : ℕ) (said : InSession) (moment : ℕ) (old new : BookState) (outcome : Outcome) → AnswersSaid p r said moment old outcome new → new.is_clean ≡ true
    → (other : Registry) → view_saying p r said (lapsed p moment other) ≡ view_saying p r said (lapsed p moment old.content.registry)
    → IsFixed (sent outcome) ⊎ (sent outcome ≡ text_sent p r said (lapsed p moment other))
said_isolated p r Hello moment old new outcome (inl gives) clean other same = inl (inl (ap sent gives.0))
said_isolated p r Hello moment old new outcome (inr greeted) clean other same =
    let date : greeted.date ≡ (lapsed p moment other).clock = (greeted.step clean).dated ∙ sym (ap (λ (v : View). v.clock) same) in
    same_text (greeting_text greeted.date) (greeting_text (lapsed p moment other).clock) (sent outcome) (ap greeting_text date)
    (sent-text (greeting_outcome greeted.date) outcome (greeting_text greeted.date) greeted.answer_is refl)
said_isolated p r (Ordinary c) moment old new outcome (inl gives) clean other same = inl (inl (ap sent gives.0))
said_isolated p r (Ordinary c) moment old new outcome (inr served) clean other same =
    same_text (reply_text served.reply) (reply_text (answer p r c (lapsed p moment other))) (sent outcome) (served.bytes clean other same)
    (sent-text (reply_outcome served.reply) outcome (reply_text served.reply) served.answer_is (reply_sent (is_last served.reply.code) (reply_text served.reply)))

pub isolated_frames : FramesAreIsolated
isolated_frames p r payload moment old new outcome (inl gives) clean other same = inl (inl (ap sent gives.0))
isolated_frames p r payload moment old new outcome (inr said) clean other same = said_isolated p r (in_session payload) moment old new outcome said clean other same
