-- Sessions: the frames of a connection, answered one after the other (RFC 5730, 2; RFC 5734, 4).
use Rattle.std.specs.Prelude.{◌≡◌, ◌⊎◌, ℕ, List, [], ◌∷◌, ◌++◌, map, Option, None, Some, IfSome}
use Rattle.std.specs.List.{flat_map}
use Rattle.std.specs.Io.KnownBytes.{Appends}
use Rattle.frames.specs.Clocks.{Tells}
use Rattle.frames.specs.Frames.{frame, Takes, Ending, closed, cut, bad_length, front, over, Splits}
use Rattle.frames.specs.Texts.{closing_text}
use Rattle.frames.specs.Outcomes.{Outcome, sent, end_with}
use Rattle.streams.specs.Moves.{IsLess}
use Rattle.frames.specs.declared.session.SessionEnd.{SessionEnd}
use Rattle.frames.specs.declared.session.SessionEnd.TheVariants.{Logout, End, Cut, Length, ReadFault, WriteFault, Lost}

-- the state of a session: what its input and its clock have yet to give, where that is known, and
-- the state of its peer
pub record SessionState (S : Type 0) : Type 0 where
  pub input : Option (List ℕ)
  pub clock : Option (List ℕ)
  pub peer : S

-- a frame that is answered: its payload, its moment, and what the peer makes of it
pub record Turn : Type 0 where
  pub payload : List ℕ
  pub moment : ℕ
  pub outcome : Outcome

-- One turn: the input's next frame, at the clock's next moment, is answered by the peer.
pub record IsTurn {S : Type 0} (answers : S → ℕ → List ℕ → Outcome → S → Type 0) (turn : Turn) (before after : SessionState S) : Type 0 where
  pub payload : Takes turn.payload before.input after.input
  pub moment : Tells before.clock after.clock turn.moment
  pub outcome : answers before.peer turn.moment turn.payload turn.outcome after.peer

-- A run: turns one after the other, after each of which the session goes on.
abbrev pub Run : {S : Type 0} → (S → ℕ → List ℕ → Outcome → S → Type 0) → List Turn → SessionState S → SessionState S → Type 0
Run answers [] before after = after ≡ before
Run {S} answers (turn ∷ turns) before after =
    (end_with turn.outcome ≡ None) × (next : SessionState S) × IsTurn answers turn before next × Run answers turns next after

-- what is written in a run
abbrev pub frames : List Turn → List ℕ
frames turns = flat_map (λ turn. frame (sent turn.outcome)) turns

-- ---- how a session ends

-- neither the clock nor the peer is asked again
pub record Rests {S : Type 0} (before after : SessionState S) : Type 0 where
  pub clock : after.clock ≡ before.clock
  pub peer : after.peer ≡ before.peer

-- what is left of the input is such an ending
abbrev pub IsAtEnding : {S : Type 0} → Ending → SessionState S → Type 0
IsAtEnding ending state = IfSome state.input (λ input. front input ≡ over ending)

-- What a session writes last, and its state then, after a run of these turns.
abbrev pub EndsSession : {S : Type 0} → (S → ℕ → List ℕ → Outcome → S → Type 0) → SessionEnd → List Turn
    → SessionState S → List ℕ → SessionState S → Type 0
EndsSession answers End turns before last after = IsAtEnding closed before × (last ≡ []) × Rests before after
EndsSession answers Cut turns before last after = IsAtEnding cut before × (last ≡ []) × Rests before after
EndsSession answers Length turns before last after = IsAtEnding bad_length before × (last ≡ frame closing_text) × Rests before after
EndsSession answers Logout turns before last after =
    (turn : Turn) × IsTurn answers turn before after × (end_with turn.outcome ≡ Some Logout) × (last ≡ frame (sent turn.outcome))
-- a turn found no memory, or there was none for the first frame
EndsSession answers Lost turns before last after =
    ((turn : Turn) × IsTurn answers turn before after × (end_with turn.outcome ≡ Some Lost) × (last ≡ frame (sent turn.outcome)))
    ⊎ ((turns ≡ []) × (last ≡ frame closing_text) × Rests before after)
EndsSession answers ReadFault turns before last after = (last ≡ []) × Rests before after
-- a beginning was written, and not all: of a turn's reply, or of the closing text
EndsSession answers WriteFault turns before last after =
    ((turn : Turn) × IsTurn answers turn before after × IsLess last (frame (sent turn.outcome)))
    ⊎ ((IsAtEnding bad_length before ⊎ (turns ≡ [])) × Rests before after × IsLess last (frame closing_text))

-- A session: a run, and an end.
pub record Session {S : Type 0} (answers : S → ℕ → List ℕ → Outcome → S → Type 0) (before : SessionState S) (written : List ℕ) (after : SessionState S) (end : SessionEnd) : Type 0 where
  pub turns : List Turn
  pub reached : SessionState S
  pub last : List ℕ
  pub run : Run answers turns before reached
  pub ends : EndsSession answers end turns reached last after
  pub bytes : written ≡ frames turns ++ last

-- the known bytes grew by some that P holds of
abbrev pub WritesFrames : Option (List ℕ) → Option (List ℕ) → (List ℕ → Type 0) → Type 0
WritesFrames before after P = (written : List ℕ) × Appends before after written × P written

-- ---- which frames are taken

-- The input of a run is the frames of its payloads, and of some that it hasn't come to.
abbrev pub TakesFramesInOrder : {S : Type 0} → (S → ℕ → List ℕ → Outcome → S → Type 0) → Type 0
TakesFramesInOrder {S} answers = (turns : List Turn) (before after : SessionState S) (input : List ℕ) → before.input ≡ Some input → Run answers turns before after
    → (payloads : List (List ℕ)) (ending : Ending) → Splits input payloads ending
    → (rest : List ℕ) × (later : List (List ℕ)) × (after.input ≡ Some rest) × Splits rest later ending × (payloads ≡ map (λ turn. turn.payload) turns ++ later)
