-- What the frames of a connection are answered (RFC 5730, 2.4, 2.6, 2.9.1).
use Rattle.std.specs.Prelude.{◌≡◌, ◌⊎◌, ◌≤◌, ℕ, Bool, true, false, if◌then◌else◌, List, Option, Some, None, bytes_eq, codes}
use Rattle.eppcommands.specs.Session.{before_login, in_session}
use Rattle.eppreplies.specs.Greeting.{greeting_text}
use Rattle.eppreplies.specs.Reply.{reply_text}
use Rattle.eppreplies.specs.Session.{anonymous_text}
use Rattle.model.specs.Lapse.{lapsed}
use Rattle.model.specs.Registry.{Registry}
use Rattle.model.specs.View.{view_for}
use Rattle.policy.specs.Rules.{PolicyRules, place_of_login}
use Rattle.protocol.specs.declared.code.Code.{Code}
use Rattle.protocol.specs.declared.code.Code.TheVariants.{Completed, CompletedEndingSession, UnimplementedVersion, AuthenticationError}
use Rattle.protocol.specs.declared.command.Command.{Command}
use Rattle.protocol.specs.declared.reply.Reply.{Reply}
use Rattle.protocol.specs.declared.session.BeforeLogin.{BeforeLogin}
use Rattle.protocol.specs.declared.session.BeforeLogin.TheVariants as before
use Rattle.protocol.specs.declared.session.Credentials.{Credentials}
use Rattle.protocol.specs.declared.session.InSession.{InSession}
use Rattle.protocol.specs.declared.session.InSession.TheVariants as within
use Rattle.protocol.specs.Codes.{code_of_form}
use Rattle.registry.specs.Execution.{Greets, IsUnchanged, Isolates, Steps, last_call}
use Rattle.decisions.specs.Steps.{answer}
use Rattle.frames.specs.Outcomes.{Outcome, replied, ended, failed, lost}
use Rattle.books.specs.Book.{BookState, Follows}

-- ---- replies

-- an answer's text is sent, unless it finds no memory
abbrev pub IsSentOrLost : Outcome → Outcome → Type 0
IsSentOrLost wanted outcome = (outcome ≡ wanted) ⊎ (outcome ≡ lost)

-- the session ends with it (RFC 5730, 3: 1500)
abbrev pub is_last : Code → Bool
is_last CompletedEndingSession = true
is_last code = false

abbrev pub reply_outcome : Reply → Outcome
reply_outcome reply = if is_last reply.code then ended (reply_text reply) else replied (reply_text reply)

abbrev pub greeting_outcome : ℕ → Outcome
greeting_outcome date = replied (greeting_text date)

abbrev pub anonymous_outcome : Option (List ℕ) → Code → Outcome
anonymous_outcome cl_trid code = replied (anonymous_text cl_trid code)

-- ---- a registrar that is logged in

-- The bytes of the reply are those in every registry that the registrar can't tell from this one.
abbrev pub SameBytes : PolicyRules → ℕ → Command → ℕ → Reply → BookState → BookState → Type 0
SameBytes p r c moment reply old new =
    new.is_clean ≡ true → (other : Registry)
    → view_for p r c (lapsed p moment other) ≡ view_for p r c (lapsed p moment old.content.registry)
    → reply_text reply ≡ reply_text (answer p r c (lapsed p moment other))

-- A command is answered by a step of the rules, which is isolated, at a moment at which calls are taken.
-- What was taken wrongly before isn't forgotten.
pub record IsCommandServed (p : PolicyRules) (r : ℕ) (c : Command) (moment : ℕ) (old : BookState) (outcome : Outcome) (new : BookState) : Type 0 where
  pub reply : Reply
  pub early : moment ≤ last_call
  pub step : Steps p r c moment reply old new
  pub isolation : Isolates p r c moment reply old new
  pub bytes : SameBytes p r c moment reply old new
  pub follows : Follows old new
  pub answer_is : IsSentOrLost (reply_outcome reply) outcome

-- or it can't be carried out, and then nothing is changed
abbrev pub FailsToAnswer : BookState → Outcome → BookState → Type 0
FailsToAnswer old outcome new = (outcome ≡ failed) × IsUnchanged old new × Follows old new

abbrev pub AnswersCommand : PolicyRules → ℕ → Command → ℕ → BookState → Outcome → BookState → Type 0
AnswersCommand p r c moment old outcome new =
    FailsToAnswer old outcome new ⊎ IsCommandServed p r c moment old outcome new

-- hello is answered with the registry's clock
pub record IsGreeted (p : PolicyRules) (moment : ℕ) (old : BookState) (outcome : Outcome) (new : BookState) : Type 0 where
  pub date : ℕ
  pub early : moment ≤ last_call
  pub step : Greets p moment date old new
  pub follows : Follows old new
  pub answer_is : IsSentOrLost (greeting_outcome date) outcome

abbrev pub AnswersHello : PolicyRules → ℕ → BookState → Outcome → BookState → Type 0
AnswersHello p moment old outcome new = FailsToAnswer old outcome new ⊎ IsGreeted p moment old outcome new

abbrev pub AnswersSaid : PolicyRules → ℕ → InSession → ℕ → BookState → Outcome → BookState → Type 0
AnswersSaid p r within.Hello moment old outcome new = AnswersHello p moment old outcome new
AnswersSaid p r (within.Ordinary c) moment old outcome new =
    AnswersCommand p r c moment old outcome new

abbrev pub AnswersRegistrar : PolicyRules → ℕ → List ℕ → ℕ → BookState → Outcome → BookState
    → Type 0
AnswersRegistrar p r payload moment old outcome new =
    FailsToAnswer old outcome new ⊎ AnswersSaid p r (in_session payload) moment old outcome new

-- ---- before a registrar is logged in

abbrev pub is_our_version : List ℕ → Bool
is_our_version version = bytes_eq version (codes "1.0")

-- who is logged in by it
abbrev pub caller_of : PolicyRules → List (List ℕ) → Credentials → Option ℕ
caller_of p passwords c =
    if is_our_version c.version then place_of_login c.id c.password p passwords else None

abbrev pub code_by : Option ℕ → Code
code_by None = AuthenticationError
code_by (Some caller) = Completed

-- how it is answered: another version comes first (RFC 5730, 3: 2100, 2200)
abbrev pub login_code : PolicyRules → List (List ℕ) → Credentials → Code
login_code p passwords c =
    if is_our_version c.version then code_by (place_of_login c.id c.password p passwords)
    else UnimplementedVersion

pub record AnswersLogin (p : PolicyRules) (passwords : List (List ℕ)) (cl_trid : Option (List ℕ)) (c : Credentials) (outcome : Outcome) (caller : Option ℕ) : Type 0 where
  pub answer_is : IsSentOrLost (anonymous_outcome cl_trid (login_code p passwords c)) outcome
  pub logged_in : caller ≡ caller_of p passwords c

-- what comes before a login is no step of the registry, but for hello
abbrev pub AnswersSaidBeforeLogin : PolicyRules → List (List ℕ) → BeforeLogin → ℕ → BookState → Outcome
    → BookState → Option ℕ → Type 0
AnswersSaidBeforeLogin p passwords before.Hello moment old outcome new caller =
    AnswersHello p moment old outcome new × (caller ≡ None)
AnswersSaidBeforeLogin p passwords (before.Login cl_trid c) moment old outcome new caller =
    AnswersLogin p passwords cl_trid c outcome caller × (new ≡ old)
AnswersSaidBeforeLogin p passwords (before.Refused cl_trid fault) moment old outcome new caller =
    IsSentOrLost (anonymous_outcome cl_trid (code_of_form fault)) outcome × (new ≡ old) × (caller ≡ None)

abbrev pub AnswersBeforeLogin : PolicyRules → List (List ℕ) → List ℕ → ℕ → BookState → Outcome
    → BookState → Option ℕ → Type 0
AnswersBeforeLogin p passwords payload moment old outcome new caller =
    (FailsToAnswer old outcome new × (caller ≡ None))
    ⊎ AnswersSaidBeforeLogin p passwords (before_login payload) moment old outcome new caller

-- ---- a connection

-- who sends a payload: a registrar that is logged in, or nobody yet
abbrev pub Answers : PolicyRules → List (List ℕ) → Option ℕ → List ℕ → ℕ → BookState → Outcome
    → BookState → Option ℕ → Type 0
Answers p passwords None payload moment old outcome new caller =
    AnswersBeforeLogin p passwords payload moment old outcome new caller
Answers p passwords (Some r) payload moment old outcome new caller =
    AnswersRegistrar p r payload moment old outcome new × (caller ≡ Some r)
