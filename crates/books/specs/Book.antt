-- The state of a book, and what each of its calls leaves.
use Rattle.std.specs.Prelude.{◌≡◌, ℕ, ◌<◌, ◌≤◌, ◌⊎◌, Bool, true, false, if◌then◌else◌, Option, Some, None, Result, Ok, Err, OnErr, OnOk, List, []}
use Rattle.policy.specs.declared.terms.Terms.{Terms}
use Rattle.policy.specs.Rules.{PolicyRules}
use Rattle.decisions.specs.declared.change.Change.{Change}
use Rattle.decisions.specs.Changes.{changed_all}
use Rattle.states.specs.declared.readiness.Ready.{Ready}
use Rattle.states.specs.declared.readiness.Ready.TheVariants.{Empty, Used}
use Rattle.states.specs.States.{Has, Remains, holding}
use Rattle.states.specs.declared.fault.BookFault.{BookFault}
use Rattle.states.specs.declared.fault.BookFault.TheVariants.{Memory, Store}
use Rattle.model.specs.Registry.{Registry, blank}

-- What a book holds: a registry, and the terms under which it was opened, if it was.
pub record Stored : Type 0 where
  pub registry : Registry
  pub terms : Option Terms

-- What it holds, what it held when its transaction began, whether one is open, whether nothing wrong
-- was ever taken from what keeps it and it still answers, whether nothing wrong was ever taken from it,
-- how often it refused, whether there is a book in it yet, and all that an opening may find after a
-- crash of the machine now.
pub record BookState : Type 0 where
  pub content : Stored
  pub before : Stored
  pub is_open : Bool
  pub is_clean : Bool
  pub is_honest : Bool
  pub refused : ℕ
  pub readiness : Ready
  pub crash_leaves : List (Remains Stored)

-- What keeps the book answers, as long as nothing wrong was ever taken from it.
abbrev pub Answers : BookState → Type 0
Answers s = s.is_honest ≡ true → s.is_clean ≡ true

-- what answered still does
abbrev pub StillAnswers : BookState → BookState → Type 0
StillAnswers old new = Answers old → Answers new

-- what a crash may leave is what it might have left before, and there is a book where there was one
pub record BookLeavesSame (old new : BookState) : Type 0 where
  pub honest : new.is_honest ≡ true → old.is_honest ≡ true
  pub same : new.crash_leaves ≡ old.crash_leaves
  pub ready : new.readiness ≡ old.readiness

-- What was held in the transaction may be left by a crash: once it is kept it alone, and there is a book from
-- then on; else besides what might have been left before. What keeps the book answered until then.
pub record LeavesHeld {A E : Type 0} (result : Result A E) (old new : BookState) : Type 0 where
  pub honest : new.is_honest ≡ true → old.is_honest ≡ true
  pub answered : new.is_honest ≡ true → old.is_clean ≡ true
  pub answers : OnOk result (Answers new)
  pub kept : OnOk result ((left : Remains Stored) → Has new.crash_leaves left → left ≡ holding old.content)
  pub tried : (left : Remains Stored) → Has new.crash_leaves left
      → Has old.crash_leaves left ⊎ (left ≡ holding old.content)
  pub used : OnOk result (new.readiness ≡ Used)
  pub as_before : OnErr result (new.readiness ≡ old.readiness)

-- what an opening may find after a crash now, of what nothing wrong was taken from
unfoldable pub may_leave : BookState → Remains Stored → Type 0
may_leave s left = (s.is_honest ≡ true) × Has s.crash_leaves left

-- There is a book. While nothing wrong was taken it answers, and a crash leaves what is held and nothing
-- else.
pub record LeavesItself (new : BookState) : Type 0 where
  pub used : new.readiness ≡ Used
  pub answers : Answers new
  pub alone : (left : Remains Stored) → may_leave new left → left ≡ holding new.content

-- A crash leaves what it could leave before.
abbrev pub LeavesOld : BookState → BookState → Type 0
LeavesOld old new = (left : Remains Stored) → may_leave new left → may_leave old left

-- it was made of what was held, of which nothing wrong was taken
pub record IsMade (makes : Stored → Stored → Type 0) (old : BookState) (left : Remains Stored) : Type 0 where
  pub clean : old.is_clean ≡ true
  pub held : Stored
  pub is : left ≡ holding held
  pub made : makes old.content held

-- A crash leaves what it could leave before, or what is made of what was held.
abbrev pub LeavesOldOrMade : (Stored → Stored → Type 0) → BookState → BookState → Type 0
LeavesOldOrMade makes old new =
    (left : Remains Stored) → may_leave new left → may_leave old left ⊎ IsMade makes old left

-- what keeps the book refused nothing
abbrev pub NoRefusal : BookState → BookState → Type 0
NoRefusal old new = new.refused ≡ old.refused

-- what keeps the book refused again; a count at its greatest counts as risen
abbrev pub HasRefused : BookState → BookState → Type 0
HasRefused old new = (old.refused < new.refused) ⊎ (new.refused ≡ 0xFFFF_FFFF_FFFF_FFFF)

-- Whatever a call does, refusals stay counted, and what was taken wrongly isn't forgotten.
pub record Follows (old new : BookState) : Type 0 where
  pub clean : new.is_clean ≡ true → old.is_clean ≡ true
  pub counted : old.refused ≤ new.refused

-- what is held once no transaction is open
abbrev pub home : BookState → Stored
home s = if s.is_open then s.before else s.content

-- no transaction is open, and what was held before it is held again
pub record IsBack (old new : BookState) : Type 0 where
  pub closed : new.is_open ≡ false
  pub content : new.is_clean ≡ true → new.content ≡ home old

-- a fault leaves what was held before the transaction, Store has its cause, and Memory no other
abbrev pub GivesUp : BookFault → BookState → BookState → Type 0
GivesUp Memory old new = IsBack old new × NoRefusal old new
GivesUp Store old new = IsBack old new × HasRefused old new

-- so it went back, and a crash leaves what it left before
abbrev pub WentBack : BookFault → BookState → BookState → Type 0
WentBack fault old new = GivesUp fault old new × (Follows old new × BookLeavesSame old new)

-- What answered still does, and a crash leaves what it left before.
pub record BookStays (old new : BookState) : Type 0 where
  pub clean : new.is_clean ≡ true → old.is_clean ≡ true
  pub answers : StillAnswers old new
  pub leaves : BookLeavesSame old new

-- nothing is changed
pub record BookReads (old new : BookState) : Type 0 where
  pub counted : NoRefusal old new
  pub opened : new.is_open ≡ old.is_open
  pub content : new.is_clean ≡ true → new.content ≡ old.content
  pub before : new.is_clean ≡ true → new.before ≡ old.before

-- a transaction is open that can go back to what is held
pub record BookStarts (old new : BookState) : Type 0 where
  pub counted : NoRefusal old new
  pub opened : new.is_open ≡ true
  pub content : new.is_clean ≡ true → new.content ≡ old.content
  pub before : new.is_clean ≡ true → new.before ≡ old.content

-- in the open transaction this is held, and it can go back as before
pub record BookWrites (old new : BookState) (held : Stored) : Type 0 where
  pub counted : NoRefusal old new
  pub opened : new.is_open ≡ true
  pub content : new.is_clean ≡ true → new.content ≡ held
  pub before : new.is_clean ≡ true → new.before ≡ old.before

-- what was held in the transaction is kept
pub record BookKeeps (old new : BookState) : Type 0 where
  pub counted : NoRefusal old new
  pub closed : new.is_open ≡ false
  pub content : new.is_clean ≡ true → new.content ≡ old.content

-- ---- what a call does, where it answers and where it gives up

-- a question: this is the answer, and nothing is changed
abbrev pub BookFinds : {A : Type 0} → Result A BookFault → A → BookState → BookState → Type 0
BookFinds (Ok it) value old new =
    BookReads old new × (BookStays old new × (new.is_clean ≡ true → it ≡ value))
BookFinds (Err fault) value old new = WentBack fault old new

-- the same of the registry: the answer is this of it
abbrev pub BookFindsIn : {A : Type 0} → Result A BookFault → (Registry → A) → BookState → BookState
    → Type 0
BookFindsIn result value old new = BookFinds result (value old.content.registry) old new

-- a change: this is held afterwards
abbrev pub BookMakes : {A : Type 0} → Result A BookFault → Stored → BookState → BookState → Type 0
BookMakes (Ok done) held old new = BookWrites old new held × BookStays old new
BookMakes (Err fault) held old new = WentBack fault old new

-- the same: what is held is made of what was
abbrev pub BookMakesOf : {A : Type 0} → Result A BookFault → (Stored → Stored) → BookState → BookState
    → Type 0
BookMakesOf result made old new = BookMakes result (made old.content) old new

abbrev pub BookBegins : {A : Type 0} → Result A BookFault → BookState → BookState → Type 0
BookBegins (Ok done) old new = BookStarts old new × BookStays old new
BookBegins (Err fault) old new = WentBack fault old new

-- a commit, but for what a crash may leave of it
abbrev pub BookEnds : {A : Type 0} → Result A BookFault → BookState → BookState → Type 0
BookEnds (Ok done) old new = BookKeeps old new × Follows old new
BookEnds (Err fault) old new = GivesUp fault old new × Follows old new

-- the registry after these changes, under the same terms
abbrev pub with_changes : PolicyRules → List Change → Stored → Stored
with_changes p changes s = record s { registry = changed_all p changes s.registry }

-- the same registry, under these terms
abbrev pub with_terms : Terms → Stored → Stored
with_terms terms s = record s { terms = Some terms }

-- never opened
abbrev pub never_opened : Stored
never_opened = record { registry = blank; terms = None }

abbrev pub unused : BookState
unused = record { content = never_opened; before = never_opened; is_open = false; is_clean = true; is_honest = true; refused = 0; readiness = Empty; crash_leaves = [] }
