-- A session as a run of the registry: what its frames ask, one after another, and what is sent for the answers.
use Rattle.std.specs.Prelude.{◌≡◌, ◌⊎◌, ℕ, Bool, true, false, if◌then◌else◌, List, [], ◌∷◌, ◌++◌, map, Option, Some, None, IfSome, ⊤}
use Rattle.std.specs.List.{list_all}
use Rattle.eppcommands.specs.Session.{before_login, in_session}
use Rattle.frames.specs.Clocks as clocks
use Rattle.frames.specs.Frames.{frame, Takes, bad_length, closed, cut, front, over}
use Rattle.frames.specs.Texts.{closing_text}
use Rattle.eppwire.specs.Answers.{IsSentOrLost, caller_of, greeting_outcome, login_code, anonymous_outcome, reply_outcome}
use Rattle.model.specs.Lapse.{now}
use Rattle.model.specs.Registry.{Registry}
use Rattle.policy.specs.Rules.{PolicyRules}
use Rattle.isolation.specs.Alike.{AreAlikeInTurn, Pair, same}
use Rattle.isolation.specs.Redaction.{AreOne, Objects}
use Rattle.isolation.specs.Runs.{Answer, Question, code, command, date, dated, inspected, is_asked_by, reply, shown}
use Rattle.protocol.specs.declared.session.BeforeLogin.{BeforeLogin}
use Rattle.protocol.specs.declared.session.BeforeLogin.TheVariants as before
use Rattle.protocol.specs.declared.session.InSession.{InSession}
use Rattle.protocol.specs.declared.session.InSession.TheVariants as within
use Rattle.protocol.specs.Codes.{code_of_form}
use Rattle.runs.specs.Runs.{IsRun}
use Rattle.frames.specs.Outcomes.{Outcome, ended, failed, lost, replied}
use Rattle.frames.specs.Sessions.{Session, SessionState, Turn, frames}
use Rattle.frames.specs.declared.session.SessionEnd.{SessionEnd}
use Rattle.frames.specs.declared.session.SessionEnd.TheVariants.{Logout, End, Cut, Length, ReadFault, WriteFault, Lost}
use Rattle.server.specs.Connections.{AnswersAt, Desk}
use Rattle.streams.specs.Moves.{IsLess}

-- ---- what a frame asks

-- what a registrar says that is logged in (RFC 5730, 2.4, 2.5)
abbrev pub question_within : ℕ → InSession → Question
question_within r within.Hello = date
question_within r (within.Ordinary c) = command r c

-- before that hello alone asks the registry
abbrev pub questions_before : BeforeLogin → List Question
questions_before before.Hello = date ∷ []
questions_before (before.Login cl_trid c) = []
questions_before (before.Refused cl_trid fault) = []

abbrev pub questions_said : Option ℕ → List ℕ → List Question
questions_said None payload = questions_before (before_login payload)
questions_said (Some r) payload = question_within r (in_session payload) ∷ []

abbrev pub has_failed : Outcome → Bool
has_failed (replied text) = false
has_failed (ended text) = false
has_failed failed = true
has_failed lost = false

-- by its moment; a frame that failed asked nothing
abbrev pub questions_by_turn : Option ℕ → Turn → List (ℕ × Question)
questions_by_turn caller turn = if has_failed turn.outcome then [] else map (λ q. (turn.moment, q)) (questions_said caller turn.payload)

-- ---- who sends the next one

abbrev pub caller_with : PolicyRules → List (List ℕ) → BeforeLogin → Option ℕ
caller_with p passwords before.Hello = None
caller_with p passwords (before.Login cl_trid c) = caller_of p passwords c
caller_with p passwords (before.Refused cl_trid fault) = None

abbrev pub caller_after : PolicyRules → List (List ℕ) → Option ℕ → Turn → Option ℕ
caller_after p passwords None turn = if has_failed turn.outcome then None else caller_with p passwords (before_login turn.payload)
caller_after p passwords (Some r) turn = Some r

-- ---- what is sent for the answers

abbrev pub outcome_sent : Answer → Outcome
outcome_sent (reply it) = reply_outcome it
outcome_sent (dated moment) = greeting_outcome moment
outcome_sent (code it) = failed
outcome_sent (shown part) = failed
outcome_sent (inspected s) = failed

abbrev pub first_outcome : List Answer → Outcome
first_outcome [] = failed
first_outcome (a ∷ answers) = outcome_sent a

abbrev pub outcome_before : PolicyRules → List (List ℕ) → BeforeLogin → List Answer → Outcome
outcome_before p passwords before.Hello answers = first_outcome answers
outcome_before p passwords (before.Login cl_trid c) answers = anonymous_outcome cl_trid (login_code p passwords c)
outcome_before p passwords (before.Refused cl_trid fault) answers =
    anonymous_outcome cl_trid (code_of_form fault)

-- of a frame, by the answers to what it asks
abbrev pub outcome_by : PolicyRules → List (List ℕ) → Option ℕ → List ℕ → List Answer → Outcome
outcome_by p passwords None payload answers = outcome_before p passwords (before_login payload) answers
outcome_by p passwords (Some r) payload answers = first_outcome answers

-- ---- frames one after another

-- Each asks what it asks, and a frame that didn't fail is sent what the answers come to, unless that found no memory.
abbrev pub AreAnswered : PolicyRules → List (List ℕ) → Option ℕ → List Turn → Registry → Registry → Type 0
AreAnswered p passwords caller [] old new = new ≡ old
AreAnswered p passwords caller (turn ∷ turns) old new =
    (answers : List Answer) × (between : Registry)
    × IsRun p (questions_by_turn caller turn) answers old between
    × (has_failed turn.outcome ≡ false → IsSentOrLost (outcome_by p passwords caller turn.payload answers) turn.outcome)
    × AreAnswered p passwords (caller_after p passwords caller turn) turns between new

-- all that they ask
abbrev pub asked_over : PolicyRules → List (List ℕ) → Option ℕ → List Turn → List (ℕ × Question)
asked_over p passwords caller [] = []
asked_over p passwords caller (turn ∷ turns) =
    questions_by_turn caller turn ++ asked_over p passwords (caller_after p passwords caller turn) turns

-- The frames are the first of the input, and come at the moments of the clock, where these are known; and then this is
-- left of both.
abbrev pub AreHeard : List Turn → (input clock rest later : Option (List ℕ)) → Type 0
AreHeard [] input clock rest later = (rest ≡ input) × (later ≡ clock)
AreHeard (turn ∷ turns) input clock rest later =
    (next : Option (List ℕ)) × (moments : Option (List ℕ)) × Takes turn.payload input next
    × clocks.Tells clock moments turn.moment × AreHeard turns next moments rest later

-- what is left of the input of a session that ends so
abbrev pub IsLeftAt : SessionEnd → Option (List ℕ) → Type 0
IsLeftAt End rest = IfSome rest (λ input. front input ≡ over closed)
IsLeftAt Cut rest = IfSome rest (λ input. front input ≡ over cut)
IsLeftAt Length rest = IfSome rest (λ input. front input ≡ over bad_length)
IsLeftAt Logout rest = ⊤
IsLeftAt ReadFault rest = ⊤
IsLeftAt WriteFault rest = ⊤
IsLeftAt Lost rest = ⊤

-- What is written for these frames by a session that ends so: the reply to each. The closing text comes after them for
-- a length that no frame has, or alone if there was no memory for the first frame. A write that failed leaves a beginning, and
-- not the whole.
abbrev pub AreRepliesWritten : SessionEnd → List Turn → List ℕ → Type 0
AreRepliesWritten Logout turns written = written ≡ frames turns
AreRepliesWritten End turns written = written ≡ frames turns
AreRepliesWritten Cut turns written = written ≡ frames turns
AreRepliesWritten ReadFault turns written = written ≡ frames turns
AreRepliesWritten Length turns written = written ≡ frames turns ++ frame closing_text
AreRepliesWritten Lost turns written =
    (written ≡ frames turns) ⊎ ((turns ≡ []) × (written ≡ frame closing_text))
AreRepliesWritten WriteFault turns written = IsLess written (frames turns ++ frame closing_text)

-- The frames of a session, the last among them: its input has them, its clock tells their moments, and they are
-- answered one after another, to the byte.
pub record IsAnsweredAll (p : PolicyRules) (passwords : List (List ℕ)) (old : SessionState Desk) (written : List ℕ) (end : SessionEnd) (new : SessionState Desk) : Type 0 where
  pub turns : List Turn
  pub rest : Option (List ℕ)
  pub heard : AreHeard turns old.input old.clock rest new.clock
  pub left : IsLeftAt end rest
  pub answered : AreAnswered p passwords old.peer.caller turns old.peer.book.content.registry new.peer.book.content.registry
  pub bytes : AreRepliesWritten end turns written

-- ---- laws

-- A session with the book of a registry, from which nothing wrong was taken by its end, is its frames answered.
abbrev pub SessionsAreAnswered : Type 0
SessionsAreAnswered =
    (p : PolicyRules) (passwords : List (List ℕ)) (old new : SessionState Desk) (written : List ℕ) (end : SessionEnd)
    → Session (AnswersAt p passwords) old written new end → new.peer.book.is_clean ≡ true
    → IsAnsweredAll p passwords old written end new

-- Frames that are answered one after another are a run, so that the laws of runs say of sessions what they say.
abbrev pub SessionsAreRuns : Type 0
SessionsAreRuns =
    (p : PolicyRules) (passwords : List (List ℕ)) (caller : Option ℕ) (turns : List Turn) (old new : Registry)
    → AreAnswered p passwords caller turns old new
    → (answers : List Answer) × IsRun p (asked_over p passwords caller turns) answers old new

-- Whoever is logged in is answered the same, whatever the passwords are.
abbrev pub PasswordsAreForLogins : Type 0
PasswordsAreForLogins =
    (p : PolicyRules) (passwords others : List (List ℕ)) (r : ℕ) (turns : List Turn)
    (old new : Registry)
    → AreAnswered p passwords (Some r) turns old new → AreAnswered p others (Some r) turns old new

-- it was carried out, and its text found memory
abbrev pub has_text : Outcome → Bool
has_text (replied text) = true
has_text (ended text) = true
has_text failed = false
has_text lost = false

abbrev pub are_sent : List Turn → Bool
are_sent turns = list_all (λ turn. has_text turn.outcome) turns

-- what is said, and when
abbrev pub said : List Turn → List (ℕ × List ℕ)
said turns = map (λ turn. (turn.moment, turn.payload)) turns

-- The same frames at the same moments, in registries that are the same now, whatever was settled before: where each is
-- sent a text, each is sent the same bytes, and what is left is the same now.
abbrev pub SessionsAreSentTheSame : Type 0
SessionsAreSentTheSame =
    (p : PolicyRules) (passwords : List (List ℕ)) (caller : Option ℕ) (xs ys : List Turn) (s t x y : Registry)
    → now p s ≡ now p t → AreAnswered p passwords caller xs s x → AreAnswered p passwords caller ys t y
    → said xs ≡ said ys → are_sent xs ≡ true → are_sent ys ≡ true → (xs ≡ ys) × (now p x ≡ now p y)

-- no read and no write of the session failed, and there was memory for its last text
abbrev pub is_calm : SessionEnd → Bool
is_calm Logout = true
is_calm End = true
is_calm Cut = true
is_calm Length = true
is_calm ReadFault = false
is_calm WriteFault = false
is_calm Lost = false

-- A session that nothing disturbed, with these bytes as its input, at these moments.
pub record IsUndisturbed (p : PolicyRules) (passwords : List (List ℕ)) (input clock : List ℕ) (old : SessionState Desk) (written : List ℕ) (new : SessionState Desk) (end : SessionEnd) : Type 0 where
  pub session : Session (AnswersAt p passwords) old written new end
  pub input_is : old.input ≡ Some input
  pub clock_is : old.clock ≡ Some clock
  pub clean : new.peer.book.is_clean ≡ true
  pub texts : are_sent session.turns ≡ true
  pub calm : is_calm end ≡ true

-- Two sessions that nothing disturbed, with the same bytes as their input, at the same moments, with registries that are
-- the same now, whatever was settled before: they are sent the same bytes, end alike, and leave registries that are the
-- same now.
abbrev pub SessionsAreAlike : Type 0
SessionsAreAlike =
    (p : PolicyRules) (passwords : List (List ℕ)) (input clock : List ℕ) (old other new another : SessionState Desk)
    (written sent : List ℕ) (end ending : SessionEnd)
    → IsUndisturbed p passwords input clock old written new end
    → IsUndisturbed p passwords input clock other sent another ending → old.peer.caller ≡ other.peer.caller
    → now p old.peer.book.content.registry ≡ now p other.peer.book.content.registry
    → (written ≡ sent) × (end ≡ ending)
    × (now p new.peer.book.content.registry ≡ now p another.peer.book.content.registry)

-- ---- registries that differ in what others hide

-- the frame of the logout that a session ended with, if it did
abbrev pub logout_of : {S : Type 0} {answers : S → ℕ → List ℕ → Outcome → S → Type 0} {old new : SessionState S} {written : List ℕ} (end : SessionEnd)
    → Session answers old written new end → List Turn
logout_of Logout s = s.ends.0 ∷ []
logout_of other s = []

-- what all frames ask of a session that nothing disturbed, its logout among them
abbrev pub asked_in : {p : PolicyRules} {passwords : List (List ℕ)} {input clock : List ℕ} {old new : SessionState Desk} {written : List ℕ} {end : SessionEnd}
    → IsUndisturbed p passwords input clock old written new end → List (ℕ × Question)
asked_in {p} {passwords} {old} {end} one =
    asked_over p passwords old.peer.caller (one.session.turns ++ logout_of end one.session)

-- the same questions in both registries
abbrev pub sames : List (ℕ × Question) → List (ℕ × Pair)
sames questions = map (λ (q : ℕ × Question). (q.0, same q.1)) questions

-- Two registries that a registrar can't tell apart by these questions. They are one for it now but for what is
-- touched. It may have asked every question. In neither registry does it present a right secret of what is touched.
pub record AreOneFor (p : PolicyRules) (r : ℕ) (touched : Objects) (questions : List (ℕ × Question)) (s t : Registry) : Type 0 where
  pub one : AreOne r touched (now p s) (now p t)
  pub asks : list_all (λ q. is_asked_by r q.1) questions ≡ true
  pub alike : AreAlikeInTurn p r touched (sames questions) s t

-- Two sessions that nothing disturbed, of one caller, with the same bytes as their input, at the same moments. A
-- registrar can't tell their registries apart by what the frames ask. Then they are sent the same bytes, end alike, and
-- leave registries that are one for it again, but for what is touched.
abbrev pub SessionsTellTheSame : Type 0
SessionsTellTheSame =
    (p : PolicyRules) (passwords : List (List ℕ)) (r : ℕ) (touched : Objects) (input clock : List ℕ)
    (old other new another : SessionState Desk) (written sent : List ℕ) (end ending : SessionEnd)
    (one : IsUndisturbed p passwords input clock old written new end)
    → IsUndisturbed p passwords input clock other sent another ending → old.peer.caller ≡ other.peer.caller
    → AreOneFor p r touched (asked_in one) old.peer.book.content.registry other.peer.book.content.registry
    → (written ≡ sent) × (end ≡ ending)
    × AreOne r touched (now p new.peer.book.content.registry) (now p another.peer.book.content.registry)
