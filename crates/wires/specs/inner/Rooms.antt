-- Whose turn it is, and what becomes of a fault of accepting.
use Rattle.std.specs.Prelude.{◌≡◌, ◌<◌, ◌-◌, ◌⊎◌, ◌||◌, ◌++◌, ℕ, ℤ, pos, nat_eq, Bool, true, false, List, [], ◌∷◌, length, HoldsAt, Option, Some, None, is_some, if◌then◌else◌}
use Rattle.std.specs.List.{All, AllWithin, remove, slice_get}
use Rattle.std.specs.Option.{MatchOption}
use Rattle.std.specs.declared.time.Duration.{Duration}
use Rattle.std.specs.Duration.{as_nanos}
use Rattle.wires.specs.declared.turn.Port.{Port}
use Rattle.wires.specs.declared.turn.Port.TheVariants.{Public, Office}
use Rattle.wires.specs.declared.room.Entered.{Entered}
use Rattle.wires.specs.declared.room.Entered.TheVariants as entered
use Rattle.wires.specs.declared.room.Guest.{Guest}
use Rattle.wires.specs.declared.room.Guest.TheVariants as guests
use Rattle.wires.specs.declared.room.Next.{Next}
use Rattle.wires.specs.declared.room.Next.TheVariants.{Turn, Nobody, Want, Fault}
use Rattle.wires.specs.declared.room.Waiting.{Waiting}
use Rattle.std.specs.declared.io.ErrorKind.{ErrorKind}
use Rattle.std.specs.declared.io.ErrorKind.TheVariants.{WouldBlock, Interrupted, ConnectionAborted}

-- a call that failed so may be made again: there was nothing to do, or it was interrupted
abbrev pub is_retryable : ErrorKind → Bool
is_retryable WouldBlock = true
is_retryable Interrupted = true
is_retryable _ = false

-- a fault of accepting that concerns one connection alone
abbrev pub is_of_one_connection : ErrorKind → Bool
is_of_one_connection ConnectionAborted = true
is_of_one_connection Interrupted = true
is_of_one_connection _ = false

-- Linux's numbers of faults of accepting (errno(3)) that are want of what others may give back: ENOMEM, ENFILE, EMFILE
-- and ENOBUFS
abbrev pub is_want : Option ℤ → Bool
is_want (Some (pos number)) = nat_eq number 12 || (nat_eq number 23 || (nat_eq number 24 || nat_eq number 105))
is_want _ = false

-- nobody else came
abbrev pub is_nobody : ErrorKind → Bool
is_nobody WouldBlock = true
is_nobody _ = false

-- what is known of who comes next where accepting failed so, with Linux's number of it
abbrev pub guest_of : {W : Type 0} → ErrorKind → Option ℤ → Guest W
guest_of kind number =
    if is_nobody kind then guests.Nobody
    else (if is_of_one_connection kind then guests.Gone else (if is_want number then guests.Want else guests.Fault))

-- a guest that comes is one of these
abbrev pub IsGuestOf : {W : Type 0} → (W → Type 0) → Guest W → Type 0
IsGuestOf Comes (guests.One one) = Comes one
IsGuestOf Comes _ = Unit {0}

-- the first of those that wait which tells this, or none; all before it tell the other
abbrev pub IsFirst : {W : Type 0} → (W → Bool → Type 0) → (value other : Bool) → List W → Option ℕ → Type 0
IsFirst Tells value other waiting place =
    MatchOption place (AllWithin (λ w. Tells w other) waiting 0 (length waiting))
    (λ i. (i < length waiting) × HoldsAt (λ w. Tells w value) waiting i × AllWithin (λ w. Tells w other) waiting 0 i)

-- what is at a place, and what is left without it
abbrev pub taken_at : {W : Type 0} → List W → (place : Option ℕ) → Option W
taken_at waiting None = None
taken_at waiting (Some i) = slice_get waiting i

abbrev pub left_at : {W : Type 0} → List W → (place : Option ℕ) → List W
left_at waiting None = waiting
left_at waiting (Some i) = remove waiting i

-- the first of those that wait which tells this is taken from among them, if there is one
abbrev pub TakesFirst : {W : Type 0} → (W → Bool → Type 0) → (value other : Bool) → (old new : List W) → Option W → Type 0
TakesFirst Tells value other old new taken =
    (place : Option ℕ) × IsFirst Tells value other old place × (taken ≡ taken_at old place) × (new ≡ left_at old place)

-- the oldest silent one is let go, if there is one
abbrev pub LetsGoSilent : {W : Type 0} → (W → Bool → Type 0) → (old new : List W) → (is_one : Bool) → Type 0
LetsGoSilent {W} Tells old new is_one =
    (gone : Option W) × TakesFirst Tells false true old new gone × (is_one ≡ is_some gone)

-- whether one of two tells it, of which the second may not be there
abbrev pub TellsOf : {W : Type 0} → (W → Bool → Type 0) → W → Option W → (value : Bool) → Type 0
TellsOf Tells first None value = Tells first value
TellsOf Tells first (Some second) true = Tells first true ⊎ Tells second true
TellsOf Tells first (Some second) false = Tells first false × Tells second false

-- Whether one may wait on, whose time is over or isn't: when it is over, only one whose turn could come now may.
abbrev pub MayWait : {W : Type 0} → (W → Bool → Type 0) → W → (is_over may_wait : Bool) → Type 0
MayWait Tells waiting true may_wait = Tells waiting may_wait
MayWait Tells waiting false may_wait = may_wait ≡ true

module _ {W : Type 0} (Tells : W → Bool → Type 0) where
  -- these are left of those that wait, in their order: none is gone but silent ones
  abbrev pub AreLeft : (waiting left : List W) → Type 0
  AreLeft [] left = left ≡ []
  AreLeft (w ∷ waiting) left =
      ((rest : List W) × AreLeft waiting rest × (left ≡ w ∷ rest)) ⊎ (Tells w false × AreLeft waiting left)

-- guests that came are seated behind those that wait
abbrev pub Seats : {W : Type 0} → (W → Bool → Type 0) → (W → Type 0) → (old new : List W) → Type 0
Seats {W} Tells Comes old new = (came : List W) × All Comes came × AreLeft Tells (old ++ came) new

-- what is to be done where something is wanting for the first of two rooms, by what the second says
abbrev pub want_or : Next → Next
want_or Nobody = Want
want_or next = next

-- what is to be done where the first of two rooms says this
abbrev pub ComesNext : {R : Type 0} → (R → Next → Type 0) → (second : R) → Next → Next → Type 0
ComesNext Says second Nobody next = Says second next
ComesNext Says second Want next = (other : Next) × Says second other × (next ≡ want_or other)
ComesNext Says second one next = next ≡ one

abbrev pub NextOfTwo : {R : Type 0} → (R → Next → Type 0) → (first second : R) → Next → Type 0
NextOfTwo Says first second next = (one : Next) × Says first one × ComesNext Says second one next

-- the same by turns: the room of the port whose turn was the last one comes second
abbrev pub NextAfter : {R : Type 0} → (R → Next → Type 0) → (last : Port) (public office : R) → Next → Type 0
NextAfter Says Public public office next = NextOfTwo Says office public next
NextAfter Says Office public office next = NextOfTwo Says public office next

-- what is to be done where nobody's turn can come, by how letting in ended
abbrev pub next_of : Entered → Next
next_of entered.All = Nobody
next_of entered.Want = Want
next_of entered.Fault = Fault

-- the turn of the one that was taken, and how long it waited
abbrev pub IsTurnOf : Port → Option Waiting → Entered → Duration → Next → Type 0
IsTurnOf port None entered now next = next ≡ next_of entered
IsTurnOf port (Some one) entered now (Turn turn) =
    (turn.port ≡ port) × (turn.stream ≡ one.stream) × (as_nanos turn.waited ≡ as_nanos now - as_nanos one.came)
IsTurnOf port (Some one) entered now _ = ⊥
