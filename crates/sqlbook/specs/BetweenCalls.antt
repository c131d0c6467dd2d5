-- The state of rows between the calls of a book.
use Rattle.std.specs.Prelude.{◌≡◌, Bool, true, Result, Ok, Err}
use Rattle.states.specs.declared.fault.BookFault.{BookFault}
use Rattle.states.specs.States.{Closes, IsIdle, StateOf}
use Rattle.sqlbook.specs.AsBook.{AreKept, are_all_right}

-- The sums are as right as they were when the transaction began; where none is open going back leads
-- nowhere else; and of rows that this program made, in memory, nothing wrong was ever taken, and their
-- sums were right when the transaction began. Of what a crash may leave the sums are as right as then.
pub record IsBetweenCalls {C : Type 0} (is_made : Bool) (right : C → Bool) (s : StateOf C) : Type 0 where
  pub sums : AreKept right s
  pub idle : IsIdle s
  pub clean : is_made ≡ true → s.is_clean ≡ true
  pub begun : is_made ≡ true → right s.before ≡ true
  pub leaves : s.is_clean ≡ true → are_all_right right s.crash_leaves ≡ right s.before

-- what follows a call: nothing, or after a fault going back
abbrev pub UndoneIfFault : {A C : Type 0} → Result A BookFault → StateOf C → StateOf C → Type 0
UndoneIfFault (Ok value) old new = new ≡ old
UndoneIfFault (Err fault) old new = Closes old.before old new
