-- What a step in an open transaction does, where it answers and where it gives up.
use Rattle.std.specs.Prelude.{◌≡◌, ◌≢◌, ℕ, max, List, Bool, Result, Ok, Err, true, false}
use Rattle.decisions.specs.Changes.{changed_all}
use Rattle.decisions.specs.declared.change.Change.{Change}
use Rattle.decisions.specs.declared.order.OrderDecision.{OrderDecision}
use Rattle.model.specs.Lapse.{at}
use Rattle.model.specs.Registry.{Registry}
use Rattle.policy.specs.Rules.{PolicyRules}
use Rattle.policy.specs.Terms.{terms_of}
use Rattle.protocol.specs.declared.code.Code.{Code}
use Rattle.registry.specs.Calls.{IsRefused}
use Rattle.registry.specs.Crashes.{Makes, RefusedTo}
use Rattle.registry.specs.Execution.{SameTerms}
use Rattle.registry.specs.Opening.{HasOtherTerms, IsOurs, Opens, Refuses, goes_on, opened}
use Rattle.registry.specs.declared.fault.OpenFault.{OpenFault}
use Rattle.registry.specs.declared.fault.OpenFault.TheVariants as refusals
use Rattle.books.specs.Book.{BookReads, BookState, BookStays, BookWrites, Follows, GivesUp, LeavesItself, LeavesOldOrMade, BookLeavesSame, NoRefusal, WentBack}
use Rattle.states.specs.declared.fault.BookFault.{BookFault}

-- the transaction is still open, and can go back as before; the terms are the same
pub record IsWithin (old new : BookState) : Type 0 where
  pub counted : NoRefusal old new
  pub opened : new.is_open ≡ true
  pub before : new.is_clean ≡ true → new.before ≡ old.before
  pub terms : SameTerms old new
  pub stays : BookStays old new

-- Where it answers this is so. Where it gives up the book went back.
abbrev pub Does : {A : Type 0} → Result A BookFault → (A → Type 0) → BookState → BookState → Type 0
Does (Ok it) is old new = is it
Does (Err fault) is old new = WentBack fault old new

-- a question of which this is true of the answer; nothing is changed
abbrev pub BookFindsSome : {A : Type 0} → Result A BookFault → (A → Type 0) → BookState → BookState
    → Type 0
BookFindsSome (Ok it) is old new = BookReads old new
    × (BookStays old new × (new.is_clean ≡ true → is it))
BookFindsSome (Err fault) is old new = WentBack fault old new

-- the registry takes this step, with its answer
abbrev pub Works : {A : Type 0} → Result A BookFault → (Registry → Registry → A → Type 0)
    → BookState
    → BookState → Type 0
Works (Ok it) step old new =
    IsWithin old new
    × (new.is_clean ≡ true → step old.content.registry new.content.registry it)
Works (Err fault) step old new = WentBack fault old new

-- The transaction is over, under the same terms, and a crash leaves what is held.
pub record IsOver (old new : BookState) : Type 0 where
  pub closed : new.is_open ≡ false
  pub follows : Follows old new
  pub terms : SameTerms old new
  pub alone : LeavesItself new

-- A step was taken and kept. Where it gave up the book went back, but a crash may leave what the step
-- makes.
abbrev pub KeepsStep : {A : Type 0} → Result A BookFault → (Registry → Registry → A → Type 0)
    → BookState
    → BookState → Type 0
KeepsStep (Ok it) step old new =
    IsOver old new × (new.is_clean ≡ true → step old.content.registry new.content.registry it)
KeepsStep (Err fault) step old new =
    GivesUp fault old new × (Follows old new
    × (LeavesOldOrMade (Makes step) old new × (new.readiness ≡ old.readiness)))

-- ---- steps

-- The clock is at the moment, or where it was if that is later, and is the answer.
pub record HasMoved (moment : ℕ) (before after : Registry) (clock : ℕ) : Type 0 where
  pub answer_is : clock ≡ max moment before.clock
  pub left : after ≡ at (max moment before.clock) before

-- These changes are made, and this is the answer.
pub record AreChangesMade {A : Type 0} (p : PolicyRules) (changes : List Change) (answer : A)
    (before after : Registry) (it : A) : Type 0 where
  pub answer_is : it ≡ answer
  pub left : after ≡ changed_all p changes before

-- a decision on an order is carried out
abbrev pub IsOrderCarriedOut : PolicyRules → OrderDecision → Registry → Registry → Code → Type 0
IsOrderCarriedOut p decision before after code = AreChangesMade p decision.changes decision.code before after
    code

-- ---- an opening

-- in the open transaction the accounts are there, and the terms put down
pub record WasTakenUp (p : PolicyRules) (old new : BookState) : Type 0 where
  pub moves : BookWrites old new (opened p old.content)
  pub stays : BookStays old new
  pub fits : new.is_clean ≡ true → goes_on (terms_of p) old.content ≡ true

-- the book was taken up, or it went back
abbrev pub TakesUp : Result Bool BookFault → PolicyRules → BookState → BookState → Type 0
TakesUp (Ok true) p old new = WasTakenUp p old new
TakesUp (Ok false) p old new = HasOtherTerms p old new × (Follows old new × BookLeavesSame old new)
TakesUp (Err fault) p old new = WentBack fault old new

-- A book that is known to be ours is opened, and a crash leaves what is held; or it was refused.
abbrev pub OpensOurs : {A : Type 0} → Result A OpenFault → PolicyRules → BookState → BookState
    → Type 0
OpensOurs (Ok it) p old new = Opens p old new × (LeavesItself new × Follows old new)
OpensOurs (Err fault) p old new =
    Refuses fault p old new
    × ((fault ≢ refusals.Schema) × (RefusedTo fault p old new × Follows old new))

-- the same of any book
abbrev pub OpensAny : {A : Type 0} → Result A OpenFault → PolicyRules → BookState → BookState
    → Type 0
OpensAny (Ok it) p old new =
    Opens p old new × (IsOurs old new × (LeavesItself new × Follows old new))
OpensAny (Err fault) p old new = IsRefused fault p old new
