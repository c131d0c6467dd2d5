-- The state of a connection, by the bytes that came and went.
use Rattle.std.specs.Prelude.{◌+◌, ◌-◌, ◌*◌, ◌%◌, ◌&&◌, ◌||◌, ℕ, min, List, Bool, false, cond, not, nat_eq, nat_le, length, take, get_or, fold, Option, None, Some}
use Rattle.std.specs.declared.time.Duration.{Duration}
use Rattle.wires.specs.declared.progress.Part.{Part}
use Rattle.wires.specs.declared.progress.Phase.{Phase}
use Rattle.wires.specs.declared.progress.Phase.TheVariants.{First, Frame, Reply, Pause, Head, Answer}
use Rattle.wires.specs.declared.progress.Progress.{Progress}
use Rattle.wires.specs.inner.Replies.{reply_code}

-- ---- parts of a frame

abbrev pub no_part : Part
no_part = record { count = 0; total = 0 }

-- a length of 32 bits with one byte more
abbrev pub with_byte : (total byte : ℕ) → ℕ
with_byte total byte = (total * 256 % 4_294_967_296 + byte) % 4_294_967_296

-- more bytes of a frame were moved: its first four are its length
abbrev pub with_bytes_moved : Part → List ℕ → Part
with_bytes_moved part bytes = record {
  count = min (part.count + length bytes) 18_446_744_073_709_551_615;
  total = fold with_byte part.total (take (4 - part.count) bytes);
}

abbrev pub is_whole : Part → Bool
is_whole part = nat_le 4 part.count && nat_le part.total part.count

-- ---- phases

-- that of a connection whose turn begins
abbrev pub first_progress : (now : Duration) → Progress
first_progress now = record {
  phase = First;
  part = no_part;
  began = now;
  since = now;
  moved = now;
  asked = now;
  is_logged_in = false;
  is_late = false;
}

abbrev pub turned_to : Phase → Duration → Progress → Progress
turned_to phase now p = record p { phase = phase; part = no_part; since = now }

-- bytes of a frame came; behind a whole one its reply is waited for
abbrev pub with_frame : Progress → List ℕ → Duration → Progress
with_frame p bytes now =
    cond (is_whole (with_bytes_moved p.part bytes))
    (record (turned_to Reply now p) { asked = now })
    (record p { part = with_bytes_moved p.part bytes })

-- the first byte of a frame is 0
abbrev pub begins_head : List ℕ → Bool
begins_head bytes = not (nat_eq (get_or bytes 0 0) 0)

-- these bytes came
abbrev pub taken_in : Phase → Progress → List ℕ → Duration → Progress
taken_in First p bytes now =
    cond (begins_head bytes) (turned_to Head now p) (with_frame (turned_to Frame now p) bytes now)
taken_in Frame p bytes now = with_frame p bytes now
taken_in Reply p bytes now = with_frame (turned_to Frame now p) bytes now
taken_in Pause p bytes now = with_frame (turned_to Frame now p) bytes now
taken_in Head p bytes now = p
taken_in Answer p bytes now = p

abbrev pub received : Progress → List ℕ → Duration → Progress
received p bytes now = taken_in p.phase (record p { moved = now }) bytes now

-- a reply or an answer begins to go
abbrev pub begun : Phase → Duration → Progress → Progress
begun phase now p = record (turned_to phase now p) { moved = now }

-- a reply with this payload begins to go: its code 1000 says that somebody is logged in
abbrev pub is_completed : Option ℕ → Bool
is_completed None = false
is_completed (Some code) = nat_eq code 1000

abbrev pub with_reply : List ℕ → Progress → Progress
with_reply reply p = record p { is_logged_in = p.is_logged_in || is_completed (reply_code reply) }

-- these bytes are to go: a reply's payload comes behind the four bytes of its length
abbrev pub giving_in : Phase → Progress → List ℕ → Duration → Progress
giving_in Answer p bytes now = p
giving_in Head p bytes now = begun Answer now (record p { asked = p.since })
giving_in Reply p bytes now =
    cond (nat_eq p.part.count 0) (begun Reply now p) (cond (nat_eq p.part.count 4) (with_reply bytes p) p)
giving_in _ p bytes now = begun Reply now p

abbrev pub giving : Progress → List ℕ → Duration → Progress
giving p bytes now = giving_in p.phase p bytes now

-- these bytes went; behind a whole reply the next frame is waited for
abbrev pub gone_in : Phase → Progress → List ℕ → Duration → Progress
gone_in Reply p bytes now =
    cond (is_whole (with_bytes_moved p.part bytes)) (turned_to Pause now p) (record p { part = with_bytes_moved p.part bytes })
gone_in _ p bytes now = p

abbrev pub gone : Progress → List ℕ → Duration → Progress
gone p bytes now = gone_in p.phase (record p { moved = now }) bytes now
