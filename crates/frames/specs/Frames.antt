-- Frames of a byte stream (RFC 5734, 4).
use Rattle.std.specs.Prelude.{◌≡◌, ℕ, ◌+◌, ◌-◌, ◌<◌, ◌≤◌, slice_index, ◌||◌, ◌==◌, List, ◌++◌, length, take, drop, nat_lt, if◌then◌else◌, Option, Some, None, IfSome, ⊤}
use Rattle.std.specs.List.{flat_map, AllByRecursion}
use Rattle.std.specs.Int.{w32, to_be_bytes, from_be_bytes}
use Rattle.frames.specs.declared.frame.Received.{Received}
use Rattle.frames.specs.declared.frame.Received.TheVariants.{Frame, End, Cut, BadLength, ReadFault}

-- a payload on the wire: the total length in four bytes, these four included, then the payload
abbrev pub frame : List ℕ → List ℕ
frame payload = to_be_bytes w32 (length payload + 4) ++ payload

-- the total length is 6 to 65,540
abbrev pub IsPayload : List ℕ → Type 0
IsPayload payload = (2 ≤ length payload) × (length payload ≤ 65536)

-- how an input ends that has no further whole frame
pub data Ending : Type 0 where
  closed : Ending
  cut : Ending
  bad_length : Ending

-- what an input begins with: a frame's payload and the rest after it, or no whole frame
pub data Front : Type 0 where
  complete : List ℕ → List ℕ → Front
  over : Ending → Front

-- the total length that the first four bytes tell
abbrev pub total_of : List ℕ → ℕ
total_of input = from_be_bytes w32 (take 4 input)

unfoldable pub front : List ℕ → Front
front input =
    if length input == 0 then over closed else
    (if nat_lt (length input) 4 then over cut else
    (if nat_lt (total_of input) 6 || nat_lt 65540 (total_of input) then over bad_length else
    (if nat_lt (length input) (total_of input) then over cut else
    complete (take (total_of input - 4) (drop 4 input)) (drop (total_of input - 4) (drop 4 input)))))

-- the input is the frames of these payloads, and then nothing, a cut frame, or a bad length and any rest
pub record Splits (input : List ℕ) (payloads : List (List ℕ)) (ending : Ending) : Type 0 where
  pub rest : List ℕ
  pub parts : input ≡ flat_map frame payloads ++ rest
  pub each : AllByRecursion IsPayload payloads
  pub ends : front rest ≡ over ending

-- the known bytes began with a whole frame of this payload, and have lost it
abbrev pub Takes : List ℕ → Option (List ℕ) → Option (List ℕ) → Type 0
Takes payload None new = ⊤
Takes payload (Some input) None = ⊥
Takes payload (Some input) (Some rest) = front input ≡ complete payload rest

-- what a reader with these bytes left gives, where the buffer then begins with `bytes`
abbrev pub Receives : Received → List ℕ → Option (List ℕ) → Option (List ℕ) → Type 0
Receives (Frame n) buffer old new = Takes (take n buffer) old new
Receives End buffer old new = IfSome old (λ input. front input ≡ over closed)
Receives Cut buffer old new = IfSome old (λ input. front input ≡ over cut)
Receives BadLength buffer old new = IfSome old (λ input. front input ≡ over bad_length)
Receives ReadFault buffer old new = ⊤

abbrev pub AreBytes : List ℕ → Type 0
AreBytes input = (i : ℕ) → slice_index input i < 256

-- each input is frames and an ending
abbrev pub AreFrames : Type 0
AreFrames = (input : List ℕ) → AreBytes input → (payloads : List (List ℕ)) × (ending : Ending) × Splits input payloads ending

-- and that in one way
abbrev pub AreFramesInOneWay : Type 0
AreFramesInOneWay = (input : List ℕ) (ps qs : List (List ℕ)) (d e : Ending) → Splits input ps d → Splits input qs e → (ps ≡ qs) × (d ≡ e)
