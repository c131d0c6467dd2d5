-- The state of anything that keeps records in transactions, and what each call on it leaves.
use Rattle.std.specs.Prelude.{◌≡◌, ◌⊎◌, Bool, true, false, List, [], ◌∷◌, ◌++◌, Result, Ok, Err}
use Rattle.states.specs.declared.readiness.Ready.{Ready}
use Rattle.states.specs.declared.readiness.Ready.TheVariants.{Used}
use Rattle.states.specs.declared.fault.BookFault.{BookFault}

-- What an opening finds: whether there is a book, and what it holds.
pub record Remains (X : Type 0) : Type 0 where
  pub readiness : Ready
  pub content : X

-- What is held, where going back leads, whether a transaction is open, whether nothing wrong was ever
-- taken from what keeps it and it still answers, whether nothing wrong was ever taken from it, whether
-- there is a book in it yet, and all that an opening may find after a crash of the machine now.
pub record StateOf (X : Type 0) : Type 0 where
  pub content : X
  pub before : X
  pub is_open : Bool
  pub is_clean : Bool
  pub is_honest : Bool
  pub readiness : Ready
  pub crash_leaves : List (Remains X)

-- it is one of these
abbrev pub Has : {A : Type 0} → List A → A → Type 0
Has [] x = ⊥
Has (y ∷ ys) x = (x ≡ y) ⊎ Has ys x

-- a book that holds this
abbrev pub holding : {X : Type 0} → X → Remains X
holding held = record { readiness = Used; content = held }

-- What keeps it answers, as long as nothing wrong was ever taken from it.
abbrev pub Answers : {X : Type 0} → StateOf X → Type 0
Answers s = s.is_honest ≡ true → s.is_clean ≡ true

-- What a crash may leave is what it might have left before, and there is a book where there was one.
pub record LeavesSame {X : Type 0} (old new : StateOf X) : Type 0 where
  pub honest : new.is_honest ≡ true → old.is_honest ≡ true
  pub same : new.crash_leaves ≡ old.crash_leaves
  pub ready : new.readiness ≡ old.readiness

-- Whatever a call does: what was taken wrongly isn't forgotten, and going back leads where it led.
pub record Stays {X : Type 0} (old new : StateOf X) : Type 0 where
  pub clean : new.is_clean ≡ true → old.is_clean ≡ true
  pub before : new.is_clean ≡ true → new.before ≡ old.before
  pub leaves : LeavesSame old new

-- The same content, in the same transaction. What answered still does.
pub record Reads {X : Type 0} (old new : StateOf X) : Type 0 where
  pub clean : new.is_clean ≡ true → old.is_clean ≡ true
  pub before : new.is_clean ≡ true → new.before ≡ old.before
  pub opened : new.is_open ≡ old.is_open
  pub content : new.is_clean ≡ true → new.content ≡ old.content
  pub answers : Answers old → Answers new
  pub leaves : LeavesSame old new

-- In the open transaction this is held. What answered still does.
pub record Writes {X : Type 0} (held : X) (old new : StateOf X) : Type 0 where
  pub clean : new.is_clean ≡ true → old.is_clean ≡ true
  pub before : new.is_clean ≡ true → new.before ≡ old.before
  pub opened : new.is_open ≡ true
  pub content : new.is_clean ≡ true → new.content ≡ held
  pub answers : Answers old → Answers new
  pub leaves : LeavesSame old new

-- a question: this is the answer, and nothing is changed
abbrev pub Finds : {A X : Type 0} → Result A BookFault → A → StateOf X → StateOf X → Type 0
Finds (Ok it) value old new = Reads old new × (new.is_clean ≡ true → it ≡ value)
Finds (Err fault) value old new = Stays old new

-- a question of which this is true of the answer, and nothing is changed
abbrev pub FindsSome : {A X : Type 0} → Result A BookFault → (A → Type 0) → StateOf X → StateOf X → Type 0
FindsSome (Ok it) is old new = Reads old new × (new.is_clean ≡ true → is it)
FindsSome (Err fault) is old new = Stays old new

-- a change: this is held afterwards
abbrev pub Makes : {A X : Type 0} → Result A BookFault → X → StateOf X → StateOf X → Type 0
Makes (Ok done) held old new = Writes held old new
Makes (Err fault) held old new = Stays old new

-- A transaction is open that can go back to what is held. What answered still does.
pub record Starts {X : Type 0} (old new : StateOf X) : Type 0 where
  pub clean : new.is_clean ≡ true → old.is_clean ≡ true
  pub before : new.is_clean ≡ true → new.before ≡ old.content
  pub opened : new.is_open ≡ true
  pub content : new.is_clean ≡ true → new.content ≡ old.content
  pub answers : Answers old → Answers new
  pub leaves : LeavesSame old new

-- no transaction is open, and this is held
pub record Closes {X : Type 0} (held : X) (old new : StateOf X) : Type 0 where
  pub clean : new.is_clean ≡ true → old.is_clean ≡ true
  pub closed : new.is_open ≡ false
  pub content : new.is_clean ≡ true → new.content ≡ held
  pub leaves : LeavesSame old new

-- What was held is kept: it alone may be left by a crash, and there is a book from now on. What keeps it
-- answered until then, and does.
pub record Keeps {X : Type 0} (old new : StateOf X) : Type 0 where
  pub clean : new.is_clean ≡ true → old.is_clean ≡ true
  pub closed : new.is_open ≡ false
  pub content : new.is_clean ≡ true → new.content ≡ old.content
  pub answers : Answers new
  pub honest : new.is_honest ≡ true → old.is_honest ≡ true
  pub answered : new.is_honest ≡ true → old.is_clean ≡ true
  pub leaves : (left : Remains X) → Has new.crash_leaves left → left ≡ holding old.content
  pub ready : new.readiness ≡ Used

-- What was held isn't kept, but a crash may leave it too. What keeps it answered until then.
pub record Fails {X : Type 0} (old new : StateOf X) : Type 0 where
  pub clean : new.is_clean ≡ true → old.is_clean ≡ true
  pub before : new.is_clean ≡ true → new.before ≡ old.before
  pub honest : new.is_honest ≡ true → old.is_honest ≡ true
  pub answered : new.is_honest ≡ true → old.is_clean ≡ true
  pub leaves : (left : Remains X) → Has new.crash_leaves left → Has old.crash_leaves left ⊎ (left ≡ holding old.content)
  pub ready : new.readiness ≡ old.readiness

abbrev pub Begins : {A X : Type 0} → Result A BookFault → StateOf X → StateOf X → Type 0
Begins (Ok done) old new = Starts old new
Begins (Err fault) old new = Stays old new

abbrev pub Ends : {A X : Type 0} → Result A BookFault → StateOf X → StateOf X → Type 0
Ends (Ok done) old new = Keeps old new
Ends (Err fault) old new = Fails old new

-- what is noted of a commit: what was held alone, or where it failed that too, if it was tried
abbrev pub Notes : {A X : Type 0} → Result A BookFault → StateOf X → StateOf X → Type 0
Notes (Ok done) old new = new.crash_leaves ≡ holding old.content ∷ []
Notes (Err fault) old new = (new.crash_leaves ≡ old.crash_leaves) ⊎ (new.crash_leaves ≡ old.crash_leaves ++ holding old.content ∷ [])

-- where no transaction is open, going back leads nowhere else
abbrev pub IsIdle : {X : Type 0} → StateOf X → Type 0
IsIdle s = s.is_open ≡ false → s.before ≡ s.content
