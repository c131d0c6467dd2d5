-- Connections to a registry, by the protocol that their first byte shows.
use Rattle.std.specs.Prelude.{◌≡◌, ℕ, Bool, true, false, nat_eq, List, [], ◌∷◌, ◌++◌, Option, None, IfSome}
use Rattle.std.specs.Io.KnownBytes.{Appends}
use Rattle.frames.specs.Frames.{frame, IsPayload}
use Rattle.eppwire.specs.Answers.{Answers}
use Rattle.policy.specs.Rules.{PolicyRules}
use Rattle.frames.specs.Outcomes.{Outcome}
use Rattle.frames.specs.Sessions.{Session, WritesFrames}
use Rattle.frames.specs.declared.session.SessionEnd.{SessionEnd}
use Rattle.server.specs.Http.{AnswersHttp}
use Rattle.server.specs.declared.connection.ConnectionEnd.{ConnectionEnd}
use Rattle.server.specs.declared.connection.ConnectionEnd.TheVariants as ends
use Rattle.books.specs.Book.{BookState, Follows}

-- A frame begins with a byte 0, since its length is below 2^24 (RFC 5734, 4). An input without a
-- byte counts as one of EPP, too.
abbrev pub begins_frame : List ℕ → Bool
begins_frame [] = true
begins_frame (first ∷ rest) = nat_eq first 0

-- A frame begins a connection of EPP, whatever comes after it.
abbrev pub FramesBeginConnections : Type 0
FramesBeginConnections =
    (payload rest : List ℕ) → IsPayload payload → begins_frame (frame payload ++ rest) ≡ true

-- the other side of a session: who is logged in, and what the book holds
pub record Desk : Type 0 where
  pub caller : Option ℕ
  pub book : BookState

-- what is made of a payload under a policy, where registrars log in by these passwords
abbrev pub AnswersAt : PolicyRules → List (List ℕ) → Desk → ℕ → List ℕ → Outcome → Desk → Type 0
AnswersAt p passwords old moment payload outcome new =
    Answers p passwords old.caller payload moment old.book outcome new.book new.caller

-- A session of EPP with a registry, from when nobody is logged in: what it writes, what the book and
-- the clock are then, and how it ends. What is taken wrongly in it isn't forgotten, so that behind a book
-- from which nothing wrong was taken stands such a one before each of its frames.
pub record IsServed (p : PolicyRules) (passwords : List (List ℕ)) (input clock : Option (List ℕ)) (old : BookState) (written : List ℕ) (later : Option (List ℕ)) (new : BookState) (end : SessionEnd) : Type 0 where
  pub rest : Option (List ℕ)
  pub caller : Option ℕ
  pub session : Session (AnswersAt p passwords) (record { input = input; clock = clock; peer = record { caller = None; book = old } }) written
      (record { input = rest; clock = later; peer = record { caller = caller; book = new } }) end
  pub follows : Follows old new

-- an input is the known one, where there is a known one
abbrev pub Agrees : Option (List ℕ) → Option (List ℕ) → Type 0
Agrees known input = IfSome known (λ bytes. input ≡ known)

-- nothing is written, and neither the clock nor the registry is asked
abbrev pub IsLeft : (before after clock later : Option (List ℕ)) → BookState → BookState → Type 0
IsLeft before after clock later old new = Appends before after [] × (later ≡ clock) × (new ≡ old)

-- A connection: a session of EPP where its input begins as a frame does, and else a request of HTTP.
abbrev pub Serves : PolicyRules → List (List ℕ) → (input clock : Option (List ℕ)) → BookState
    → (before after later : Option (List ℕ)) → BookState → ConnectionEnd → Type 0
Serves p passwords input clock old before after later new (ends.Session end) =
    IfSome input (λ bytes. begins_frame bytes ≡ true)
    × (taken : Option (List ℕ)) × Agrees input taken
    × WritesFrames before after (λ written. IsServed p passwords taken clock old written later new end)
Serves p passwords input clock old before after later new (ends.Http end) =
    IfSome input (λ bytes. begins_frame bytes ≡ false)
    × (taken : Option (List ℕ)) × Agrees input taken
    × AnswersHttp p taken clock old before after later new end
Serves p passwords input clock old before after later new ends.Unread =
    IsLeft before after clock later old new
