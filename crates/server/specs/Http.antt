-- What a connection of HTTP is answered: a request's head, by the faces of a registry at one moment
-- (RFC 7480, 4 and 5).
use Rattle.std.specs.Prelude.{◌≡◌, ◌⊎◌, ◌≤◌, ℕ, true, List, [], ◌++◌, Option, IfSome, Result, Ok, Err}
use Rattle.std.specs.Io.KnownBytes.{Appends, Consumes, IsAtEnd}
use Rattle.frames.specs.Clocks.{Tells}
use Rattle.model.specs.Lapse.{lapsed, now}
use Rattle.model.specs.Registry.{Registry}
use Rattle.policy.specs.Rules.{PolicyRules}
use Rattle.rdap.specs.Answering.{Faces, IsAnswer}
use Rattle.rdap.specs.Heads.{IsCut, IsDecided}
use Rattle.registry.specs.Execution.{last_call}
use Rattle.server.specs.declared.http.HttpEnd.{HttpEnd}
use Rattle.server.specs.declared.http.HttpEnd.TheVariants as ends
use Rattle.frames.specs.Sessions.{WritesFrames}
use Rattle.streams.specs.Moves.{AppendsLess, IsLess}
use Rattle.books.specs.Book.{BookState, Follows}
use Rattle.books.specs.Faces.{contact_face_at, domain_face_at, host_face_at}

-- the faces of a registry, as RDAP asks for them
abbrev pub faces_of : PolicyRules → Registry → Faces
faces_of p s =
    record { domain = domain_face_at p s; host = host_face_at p s; contact = contact_face_at s }

-- those of a moment: all that is due by then has lapsed
abbrev pub faces_at : PolicyRules → ℕ → Registry → Faces
faces_at p moment s = faces_of p (lapsed p moment s)

-- What may be looked up at a moment in the registry of a book: its faces then. After the last moment at
-- which calls are taken nothing is, so that what is answered is answered whatever the faces are.
abbrev pub MayShow : PolicyRules → ℕ → BookState → Faces → Type 0
MayShow p moment state faces = moment ≤ last_call → faces ≡ faces_at p moment state.content.registry

-- Nothing is changed, but that time may have passed up to the moment.
pub record Passes (p : PolicyRules) (moment : ℕ) (old new : BookState) : Type 0 where
  pub registry : new.is_clean ≡ true → (new.content.registry ≡ old.content.registry)
      ⊎ (now p new.content.registry ≡ now p (lapsed p moment old.content.registry))
  pub terms : new.is_clean ≡ true → new.content.terms ≡ old.content.terms
  pub follows : Follows old new

-- Nothing more is read of an input than decides: what was read before the last piece held no whole head.
abbrev pub IsNeeded : List ℕ → Type 0
IsNeeded read =
    (read ≡ []) ⊎ ((front : List ℕ) × (last : List ℕ) × (read ≡ front ++ last) × IsCut front)

-- What was read of an input: so much that it is decided which head it begins with, or all of it; and no
-- more, since a client that waits for its answer sends nothing more.
pub record IsRead (input rest : Option (List ℕ)) (read : List ℕ) : Type 0 where
  pub bytes : Consumes input rest read
  pub enough : IsDecided read ⊎ IsAtEnd rest
  pub needed : IsNeeded read

-- The answer to the head that the input begins with, by the faces of the registry at one moment of
-- the clock. Of an input that isn't known, some head is answered.
pub record IsAnswered (p : PolicyRules) (input clock : Option (List ℕ)) (old : BookState) (written : List ℕ) (later : Option (List ℕ)) (new : BookState) : Type 0 where
  pub moment : ℕ
  pub clock_tells : Tells clock later moment
  pub passes : Passes p moment old new
  pub head : List ℕ
  pub agrees : IfSome input (λ bytes. head ≡ bytes)
  pub answer : new.is_clean ≡ true → (faces : Faces) → MayShow p moment old faces
      → IsAnswer p faces head written

-- What goes out of an answer: the whole, or a beginning and not the whole where a write fails. Where
-- there is none, nothing goes out.
abbrev pub IsWritten : {V E : Type 0} → (V → List ℕ) → Result V E → (before after : Option (List ℕ))
    → HttpEnd → Type 0
IsWritten items (Ok answer) before after end =
    ((end ≡ ends.Answered) × Appends before after (items answer))
    ⊎ ((end ≡ ends.WriteFault) × AppendsLess before after (items answer))
IsWritten items (Err fault) before after end = (end ≡ ends.Unanswered) × Appends before after []

-- neither the clock nor the registry was asked, or the registry gave nothing at a moment
abbrev pub MayAsk : PolicyRules → (clock : Option (List ℕ)) → BookState → (later : Option (List ℕ))
    → BookState → Type 0
MayAsk p clock old later new =
    ((later ≡ clock) × (new ≡ old))
    ⊎ ((moment : ℕ) × Tells clock later moment × Passes p moment old new)

-- what is written to a connection of HTTP, by how it ends
abbrev pub AnswersHttp : PolicyRules → (input clock : Option (List ℕ)) → BookState
    → (before after later : Option (List ℕ)) → BookState → HttpEnd → Type 0
AnswersHttp p input clock old before after later new ends.Answered =
    WritesFrames before after (λ written. IsAnswered p input clock old written later new)
AnswersHttp p input clock old before after later new ends.Unanswered =
    Appends before after [] × MayAsk p clock old later new
AnswersHttp p input clock old before after later new ends.WriteFault =
    WritesFrames before after (λ written. (answer : List ℕ) × IsAnswered p input clock old answer later new × IsLess written answer)
