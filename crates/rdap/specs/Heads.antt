-- The head of a request (RFC 9112, 2.1): its start line, its fields, and the empty line at its end.
use Rattle.std.specs.Prelude.{◌≡◌, ◌⊎◌, ℕ, ◌<◌, ◌≤◌, List, ◌++◌, length, take}
use Rattle.httparse.specs.Grammar.{HasNoRequest, MayBecomeRequest, ReadsRequest, RequestHead}
use Rattle.httparse.specs.Spans.{RequestOverflows}
use Rattle.rdap.specs.declared.head.Asked.{Asked}
use Rattle.rdap.specs.declared.head.Reading.{Reading}
use Rattle.rdap.specs.declared.head.Reading.TheVariants.{Whole, Cut, Bad}

-- the most bytes of a head, with the empty line at its end
abbrev pub most_bytes : ℕ
most_bytes = 8192

abbrev pub most_fields : ℕ
most_fields = 64

-- the bytes begin with this head, which keeps the limits
abbrev pub HasHead : List ℕ → RequestHead → Type 0
HasHead bytes h =
    (rest : List ℕ) × ReadsRequest (take most_bytes bytes) h rest × (length h.fields ≤ most_fields)

-- they begin with no head that keeps the limits, whatever follows
abbrev pub NeverHasHead : List ℕ → Type 0
NeverHasHead bytes = (more : List ℕ) (h : RequestHead) → ¬ (HasHead (bytes ++ more) h)

-- whatever follows, they begin with this head, or with none
abbrev pub IsDecided : List ℕ → Type 0
IsDecided bytes = ((h : RequestHead) × HasHead bytes h) ⊎ NeverHasHead bytes

-- they hold no whole head yet, and are within the limit of bytes
pub record IsCut (bytes : List ℕ) : Type 0 where
  pub short : length bytes < most_bytes
  pub no_head : HasNoRequest bytes
  pub unfinished : MayBecomeRequest bytes

-- the method and the target of the head are what is asked
pub record IsAskedBy (h : RequestHead) (asked : Asked) : Type 0 where
  pub method : asked.method.now ≡ h.method
  pub target : asked.target.now ≡ h.target

-- what reading the bytes may answer: the method and the target of their head, that they're cut, or
-- that they begin with no head
abbrev pub IsReading : List ℕ → Reading → Type 0
IsReading bytes (Whole asked) = (h : RequestHead) × HasHead bytes h × IsAskedBy h asked
IsReading bytes Cut = IsCut bytes
IsReading bytes Bad = NeverHasHead bytes

-- the same of bytes that are within the limit, and that may go on without one
abbrev pub IsFrontReading : List ℕ → Reading → Type 0
IsFrontReading front (Whole asked) =
    (h : RequestHead)
    × ((rest : List ℕ) × ReadsRequest front h rest × (length h.fields ≤ most_fields))
    × IsAskedBy h asked
IsFrontReading front Cut = HasNoRequest front × MayBecomeRequest front
IsFrontReading front Bad = RequestOverflows most_fields front
