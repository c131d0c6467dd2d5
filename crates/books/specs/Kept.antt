-- The state of a book that is made of records.
use Rattle.std.specs.Prelude.{◌≡◌, ℕ, ◌≤◌, Bool, true, false, if◌then◌else◌}
use Rattle.std.proofs.Common.{ap}
use Rattle.states.specs.declared.fault.BookFault.{BookFault}
use Rattle.states.specs.declared.fault.BookFault.TheVariants.{Memory, Store}
use Rattle.books.specs.Book.{BookState, HasRefused, BookLeavesSame, NoRefusal}
use Rattle.books.specs.Records.{RecordsState}

abbrev pub book_state : RecordsState → ℕ → BookState
book_state s refused = record {
  content = s.content;
  before = s.before;
  is_open = s.is_open;
  is_clean = s.is_clean;
  is_honest = s.is_honest;
  refused = refused;
  readiness = s.readiness;
  crash_leaves = s.crash_leaves;
}

-- how often it refused, where it can refuse at all
abbrev pub refusals_of : Bool → ℕ → ℕ
refusals_of refuses refused = if refuses then refused else 0

-- the state of a book whose records may refuse, or can't, and refused so often
abbrev pub state_of : RecordsState → Bool → ℕ → BookState
state_of s refuses refused = book_state s (refusals_of refuses refused)

-- what can't refuse never did
pub none_refused : (refuses : Bool) (refused : ℕ) → refuses ≡ false
    → refusals_of refuses refused ≡ 0
none_refused refuses refused e = ap (λ (b : Bool). refusals_of b refused) e

-- it went back, whatever was done in the transaction
pub record HasRolledBack (old new : BookState) : Type 0 where
  pub clean : new.is_clean ≡ true → old.is_clean ≡ true
  pub counted : old.refused ≤ new.refused
  pub closed : new.is_open ≡ false
  pub content : new.is_clean ≡ true → new.content ≡ old.before
  pub leaves : BookLeavesSame old new

abbrev pub GaveUp : BookFault → BookState → BookState → Type 0
GaveUp Memory old new = HasRolledBack old new × NoRefusal old new
GaveUp Store old new = HasRolledBack old new × HasRefused old new
