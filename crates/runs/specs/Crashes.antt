-- What becomes of a registry in a file, whatever it is asked, whatever fails, and whenever the machine stops.
use Rattle.std.specs.Prelude.{◌≡◌, ◌⊎◌, ℕ, Bool, true, false, List, [], ◌∷◌, Some}
use Rattle.policy.specs.Rules.{PolicyRules}
use Rattle.policy.specs.Terms.{terms_of}
use Rattle.registry.specs.Crashes.{Makes, OpensTo}
use Rattle.registry.specs.Execution.{IsSettlement}
use Rattle.isolation.specs.Runs.{IsCall, Question}
use Rattle.books.specs.Book.{BookState, Follows, LeavesItself, LeavesOld, LeavesOldOrMade, Stored}
use Rattle.books.specs.Reopening.{IsReopened, LeavesFound}

-- ---- calls

-- A book is opened under a policy; or, in a registry of a policy, a question is asked at a moment, or so many
-- objects at most are settled.
pub data Call : Type 0 where
  opening : PolicyRules → Call
  asking : PolicyRules → ℕ → Question → Call
  settling : PolicyRules → ℕ → ℕ → Call

-- what a call makes of what is held, under the policy whose terms were put down when it was opened
abbrev pub CallLeadsTo : Call → Stored → Stored → Type 0
CallLeadsTo (opening p) before after = OpensTo p before after
CallLeadsTo (asking p moment q) before after =
    (before.terms ≡ Some (terms_of p)) × Makes (IsCall p moment q) before after
CallLeadsTo (settling p moment at_most) before after =
    (before.terms ≡ Some (terms_of p)) × Makes (IsSettlement p moment at_most) before after

-- calls one after another
abbrev pub AreMade : List Call → Stored → Stored → Type 0
AreMade [] before after = after ≡ before
AreMade (call ∷ calls) before after =
    (between : Stored) × CallLeadsTo call before between × AreMade calls between after

-- ---- what happens

-- A call answers; or it is refused before anything is tried; or it gives up; or the machine stops, and the book is
-- taken up again from what kept it.
pub data Event : Type 0 where
  answered : Call → Event
  refused : Call → Event
  gave_up : Call → Event
  crash : Event

-- Which calls were made: all that answered, in their order; and of those that gave up before a crash, since
-- the last that answered, one or none. `shows` says that one of these was, which the crash has to show.
abbrev pub WereMade : Bool → List Event → List Call → Type 0
WereMade shows [] calls = (shows ≡ false) × (calls ≡ [])
WereMade shows (answered call ∷ events) calls =
    (shows ≡ false) × (rest : List Call) × (calls ≡ call ∷ rest) × WereMade false events rest
WereMade shows (refused call ∷ events) calls = WereMade shows events calls
WereMade shows (gave_up call ∷ events) calls =
    WereMade shows events calls
    ⊎ ((shows ≡ false) × (rest : List Call) × (calls ≡ call ∷ rest) × WereMade true events rest)
WereMade shows (crash ∷ events) calls = WereMade false events calls

-- what these events come to, where that was held at first
abbrev pub ComeTo : List Event → Stored → Stored → Type 0
ComeTo events first found =
    (calls : List Call) × WereMade false events calls × AreMade calls first found

-- ---- the books to which it happens

-- What is held afterwards, if nothing wrong was taken from what keeps it, and what a crash leaves of it. After
-- a crash a book is taken up that holds what the crash left.
abbrev pub Happens : Event → BookState → BookState → Type 0
Happens (answered call) old new =
    Follows old new × (new.is_clean ≡ true → CallLeadsTo call old.content new.content) × LeavesItself new
Happens (refused call) old new =
    Follows old new × (new.is_clean ≡ true → new.content ≡ old.content) × LeavesOld old new
Happens (gave_up call) old new =
    Follows old new × (new.is_clean ≡ true → new.content ≡ old.content)
    × LeavesOldOrMade (CallLeadsTo call) old new
Happens crash old new = (old.is_honest ≡ true) × IsReopened old new × LeavesFound new

-- one event after another
abbrev pub Happen : List Event → BookState → BookState → Type 0
Happen [] old new = new ≡ old
Happen (event ∷ events) old new =
    (between : BookState) × Happens event old between × Happen events between new

-- the same, where of what was found after a crash it is known only that it was left
abbrev pub Happened : List Event → BookState → BookState → Type 0
Happened [] old new = new ≡ old
Happened (event ∷ events) old new =
    (between : BookState) × ∥ Happens event old between ∥₁ × Happened events between new
