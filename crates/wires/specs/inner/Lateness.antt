-- How long a connection may take, and when it took longer.
use Rattle.std.specs.Prelude.{◌-◌, ◌&&◌, ◌||◌, ℕ, List, [], ◌∷◌, Bool, true, false, cond, not, nat_eq, nat_lt, map}
use Rattle.std.specs.Duration.{as_nanos}
use Rattle.std.specs.declared.time.Duration.{Duration}
use Rattle.wires.specs.declared.limits.Limits.{Limits}
use Rattle.wires.specs.declared.progress.Given.{Given}
use Rattle.wires.specs.declared.progress.Given.TheVariants as begun
use Rattle.wires.specs.declared.progress.Phase.{Phase}
use Rattle.wires.specs.declared.progress.Phase.TheVariants.{First, Frame, Reply, Pause, Head, Answer}
use Rattle.wires.specs.declared.progress.Progress.{Progress}

-- all limits in nanoseconds, and the usual ones in seconds: for the first byte, a head, a frame, a login, a pause, a byte
-- while others wait, and a session while others wait
abbrev pub nanos_of : Limits → List ℕ
nanos_of l = map as_nanos (l.first ∷ l.head ∷ l.frame ∷ l.login ∷ l.pause ∷ l.still ∷ l.session ∷ [])

abbrev pub usual : List ℕ
usual = 10 ∷ 10 ∷ 30 ∷ 30 ∷ 60 ∷ 10 ∷ 60 ∷ []

-- more time than a limit has passed from one moment to another
abbrev pub has_passed : Duration → Duration → Duration → Bool
has_passed limit from now = nat_lt (as_nanos limit) (as_nanos now - as_nanos from)

-- how long a phase may last, where others wait or none does
abbrev pub limit_of : Phase → Limits → Bool → Duration
limit_of First limits is_awaited = limits.first
limit_of Head limits is_awaited = limits.head
limit_of Frame limits is_awaited = limits.frame
limit_of Pause limits is_awaited = limits.pause
limit_of Reply limits is_awaited = cond is_awaited limits.still limits.pause
limit_of Answer limits is_awaited = cond is_awaited limits.still limits.pause

-- the phases in which a session is late that nobody has logged in to
abbrev pub needs_login : Phase → Bool
needs_login Frame = true
needs_login Pause = true
needs_login _ = false

-- the phase in which a session is late that has lasted long enough while others wait
abbrev pub is_pause : Phase → Bool
is_pause Pause = true
is_pause _ = false

-- nobody has logged in to a session in time
abbrev pub lacks_login : Progress → Limits → Duration → Bool
lacks_login p limits now = needs_login p.phase && (not p.is_logged_in && has_passed limits.login p.began now)

-- While others wait, no byte was moved for too long, or a session that has lasted long enough has no frame coming.
abbrev pub holds_up : Progress → Limits → Duration → Bool
holds_up p limits now =
    has_passed limits.still p.moved now || (is_pause p.phase && has_passed limits.session p.began now)

-- a connection takes longer than it may, where others wait or none does
abbrev pub takes_too_long : Progress → Limits → (is_awaited : Bool) → Duration → Bool
takes_too_long p limits is_awaited now =
    has_passed (limit_of p.phase limits is_awaited) p.since now
    || (lacks_login p limits now || (is_awaited && holds_up p limits now))

-- a frame or a head is coming
abbrev pub is_asked : Phase → Bool
is_asked Frame = true
is_asked Head = true
is_asked _ = false

-- What begins with bytes that are to go: an answer behind a head, and a reply's payload behind the four bytes of its
-- length. Else they are a length, or more of what was begun.
abbrev pub given_in : Phase → (count : ℕ) → Given
given_in Head count = begun.Answer
given_in Reply count = cond (nat_eq count 4) begun.Reply begun.Part
given_in _ count = begun.Part
