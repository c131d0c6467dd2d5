-- What a registrar is sent depends on nothing that it may not see.
use Rattle.std.specs.Prelude.{◌≡◌, ◌⊎◌, ℕ, true, List, [], map, Option, option_and_then}
use Rattle.eppcommands.specs.Session.{in_session}
use Rattle.frames.specs.Texts.{closing_text, failed_text}
use Rattle.eppreplies.specs.Greeting.{greeting_text}
use Rattle.eppreplies.specs.Reply.{reply_text}
use Rattle.model.specs.Lapse.{lapsed}
use Rattle.model.specs.Registry.{Registry}
use Rattle.model.specs.View.{View, view, view_for}
use Rattle.policy.specs.Rules.{PolicyRules, password_at, place_of}
use Rattle.isolation.specs.Alike.{Pair, AreAlikeInTurn, firsts, seconds}
use Rattle.isolation.specs.Laws.{none}
use Rattle.isolation.specs.Runs.{Answer, code, dated, inspected, reply, shown, answers_to}
use Rattle.protocol.specs.declared.session.Credentials.{Credentials}
use Rattle.protocol.specs.declared.session.InSession.{InSession}
use Rattle.protocol.specs.declared.session.InSession.TheVariants.{Hello, Ordinary}
use Rattle.decisions.specs.Steps.{answer}
use Rattle.frames.specs.Outcomes.{Outcome, sent}
use Rattle.books.specs.Book.{BookState}
use Rattle.eppwire.specs.Answers.{AnswersRegistrar, caller_of, login_code}

-- a command could not be carried out, or its reply found no memory or has no frame
abbrev pub IsFixed : List ℕ → Type 0
IsFixed text = (text ≡ failed_text) ⊎ (text ≡ closing_text)

-- what the rules answer in a registry to what a registrar says
abbrev pub text_sent : PolicyRules → ℕ → InSession → Registry → List ℕ
text_sent p r Hello s = greeting_text s.clock
text_sent p r (Ordinary c) s = reply_text (answer p r c s)

-- what the registrar sees there with it
abbrev pub view_saying : PolicyRules → ℕ → InSession → Registry → View
view_saying p r Hello s = view p r s
view_saying p r (Ordinary c) s = view_for p r c s

-- For each frame of a registrar that is logged in, also one that is no JSON: what is sent is what the
-- rules answer in every registry that shows the registrar the same at that moment, or a fixed text.
abbrev pub FramesAreIsolated : Type 0
FramesAreIsolated =
    (p : PolicyRules) (r : ℕ) (payload : List ℕ) (moment : ℕ) (old new : BookState) (outcome : Outcome)
    → AnswersRegistrar p r payload moment old outcome new → new.is_clean ≡ true → (other : Registry)
    → view_saying p r (in_session payload) (lapsed p moment other) ≡ view_saying p r (in_session payload) (lapsed p moment old.content.registry)
    → IsFixed (sent outcome)
    ⊎ (sent outcome ≡ text_sent p r (in_session payload) (lapsed p moment other))

-- ---- passwords

-- the password of the registrar with an id, if there is such a registrar
abbrev pub password_of : PolicyRules → List (List ℕ) → List ℕ → Option (List ℕ)
password_of p passwords id = option_and_then (password_at passwords) (place_of id p)

-- The policy of the rules has no password, so no reply to a registrar that is logged in depends on one. A login depends
-- on the password of the registrar that it names, and on no other.
abbrev pub LoginsAreIsolated : Type 0
LoginsAreIsolated =
    (p : PolicyRules) (passwords others : List (List ℕ)) (c : Credentials)
    → password_of p passwords c.id ≡ password_of p others c.id
    → (caller_of p passwords c ≡ caller_of p others c)
    × (login_code p passwords c ≡ login_code p others c)

-- ---- over whole runs

-- what is sent of an answer to what a registrar may have asked
abbrev pub sent_text : Answer → List ℕ
sent_text (reply it) = reply_text it
sent_text (code it) = []
sent_text (dated moment) = greeting_text moment
sent_text (shown part) = []
sent_text (inspected s) = []

-- Two lists of calls that differ in nothing but what others than the registrar hide tell it the same texts,
-- byte for byte, one after another.
abbrev pub AlikeListsSendTheSame : Type 0
AlikeListsSendTheSame =
    (p : PolicyRules) (r : ℕ) (pairs : List (ℕ × Pair)) (s : Registry) → AreAlikeInTurn p r none pairs s s
    → map sent_text (answers_to p r (firsts pairs) s) ≡ map sent_text (answers_to p r (seconds pairs) s)
