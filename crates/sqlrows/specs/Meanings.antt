-- What a call on rows leaves, said of what the rows mean.
use Rattle.std.specs.Prelude.{◌≡◌, Bool, true, Result, Ok, Err}
use Rattle.states.specs.declared.fault.BookFault.{BookFault}
use Rattle.states.specs.States.{Answers, LeavesSame, StateOf, Reads, Stays}

-- a question: this is the answer where the sums that rows keep are right, and nothing is changed
abbrev pub FindsIfRight : {A C : Type 0} → Result A BookFault → Bool → A → StateOf C → StateOf C → Type 0
FindsIfRight (Ok it) right value old new = Reads old new × (new.is_clean ≡ true → right ≡ true → it ≡ value)
FindsIfRight (Err fault) right value old new = Stays old new

-- In the open transaction what is held became what it is now in this way. What answered still does.
pub record HasChanged {C : Type 0} (way : C → C → Type 0) (old new : StateOf C) : Type 0 where
  pub clean : new.is_clean ≡ true → old.is_clean ≡ true
  pub before : new.is_clean ≡ true → new.before ≡ old.before
  pub opened : new.is_open ≡ true
  pub content : new.is_clean ≡ true → way old.content new.content
  pub answers : Answers old → Answers new
  pub leaves : LeavesSame old new

-- a change in this way
abbrev pub Changes : {A C : Type 0} → Result A BookFault → (C → C → Type 0) → StateOf C → StateOf C → Type 0
Changes (Ok done) way old new = HasChanged way old new
Changes (Err fault) way old new = Stays old new
