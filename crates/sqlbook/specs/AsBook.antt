-- What holds rows, as a book sees it: what the rows mean, and whether the sums that are stored with
-- them were right when the transaction began, and are wherever a crash may leave them.
use Rattle.std.specs.Prelude.{◌≡◌, Bool, true, ◌&&◌, List, map, Result, Ok, Err}
use Rattle.std.specs.List.{list_all}
use Rattle.states.specs.declared.fault.BookFault.{BookFault}
use Rattle.states.specs.States.{Answers, LeavesSame, Remains, StateOf, Stays}

-- what rows that a crash leaves mean
abbrev pub remains_meant : {C X : Type 0} → (C → X) → Remains C → Remains X
remains_meant means left = record { readiness = left.readiness; content = means left.content }

abbrev pub are_all_right : {C : Type 0} → (C → Bool) → List (Remains C) → Bool
are_all_right {C} right leaves = list_all (λ (left : Remains C). right left.content) leaves

abbrev pub as_book : {C X : Type 0} → (C → X) → (C → Bool) → StateOf C → StateOf X
as_book means right s = record {
  content = means s.content;
  before = means s.before;
  is_open = s.is_open;
  is_clean = s.is_clean && right s.before;
  is_honest = s.is_honest && are_all_right right s.crash_leaves;
  readiness = s.readiness;
  crash_leaves = map (remains_meant means) s.crash_leaves;
}

-- the sums are as right as they were when the transaction began
abbrev pub AreKept : {C : Type 0} → (C → Bool) → StateOf C → Type 0
AreKept right s = s.is_clean ≡ true → right s.content ≡ right s.before

-- Rows that mean this now, in the open transaction, with sums as right as they were. What answered still does.
pub record HasMade {C X : Type 0} (means : C → X) (right : C → Bool) (held : X) (old new : StateOf C) : Type 0 where
  pub clean : new.is_clean ≡ true → old.is_clean ≡ true
  pub before : new.is_clean ≡ true → new.before ≡ old.before
  pub opened : new.is_open ≡ true
  pub content : new.is_clean ≡ true → means new.content ≡ held
  pub sums : new.is_clean ≡ true → right new.content ≡ right old.content
  pub answers : Answers old → Answers new
  pub leaves : LeavesSame old new

-- a change of rows
abbrev pub MakesAs : {A C X : Type 0} → Result A BookFault → (C → X) → (C → Bool) → X → StateOf C
    → StateOf C → Type 0
MakesAs (Ok done) means right held old new = HasMade means right held old new
MakesAs (Err fault) means right held old new = Stays old new
