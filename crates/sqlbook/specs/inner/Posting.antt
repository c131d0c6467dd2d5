-- Changes of an account whose row isn't written yet.
use Rattle.std.specs.Prelude.{◌≡◌, ◌⊎◌, ℕ, true, List, Option, Some, Result, Ok, Err}
use Rattle.sqlite_rules.specs.Lists.{Has}
use Rattle.states.specs.declared.fault.BookFault.{BookFault}
use Rattle.states.specs.States.{StateOf, Stays}
use Rattle.objects.specs.declared.domain.Domain.{Domain}
use Rattle.books.specs.Book.{Stored}
use Rattle.books.specs.Tables.{posted_to}
use Rattle.sqlrows.specs.Meanings.{HasChanged}
use Rattle.sqltables.specs.Content.{Content}
use Rattle.sqltables.specs.declared.line.LineRow.{LineRow}
use Rattle.sqltables.specs.inner.Consistent.{IsConsistent}
use Rattle.sqlaccounts.specs.Accounts.{sums_are_right}
use Rattle.sqlaccounts.specs.inner.Changes.{AreOthersKept}
use Rattle.sqlaccounts.specs.inner.Posting.{HasEnd}
use Rattle.sqlterms.specs.Terms.{days_of_rows}
use Rattle.sqlderived.specs.Held.{helds_are_right}
use Rattle.sqlderived.specs.declared.recounting.Unwritten.{Unwritten}
use Rattle.sqlderived.specs.inner.Recounts.{IsUnwritten, with_unwritten}
use Rattle.sqlbook.specs.Meaning.{are_right, stored_of}
use Rattle.sqlbook.specs.inner.Replacing.{IsReplaced}

-- each row of a line that is new has the end of the line's grace, by the days that were put down
abbrev pub HaveEnds : Content → Content → Type 0
HaveEnds old new = (row : LineRow) → Has new.lines row → Has old.lines row ⊎ HasEnd (days_of_rows old) row

-- An account is changed: this is made of what is held. Sums are as right as they were, and rows of other tables as they were.
pub record ArePosted (made : Stored → Stored) (old new : Content) : Type 0 where
  pub held : stored_of new ≡ made (stored_of old)
  pub sums : sums_are_right new ≡ sums_are_right old
  pub helds : helds_are_right new ≡ helds_are_right old
  pub others : AreOthersKept old new
  pub consistent : IsConsistent new
  pub ends : HaveEnds old new

-- an account is opened, if it wasn't
abbrev pub IsOpenedInBook : ℕ → Content → Content → Type 0
IsOpenedInBook r old new = ((stored_of new ≡ posted_to r (λ account. account) (stored_of old)) × (are_right new ≡ are_right old)) × HaveEnds old new

-- the same, once the account's row is written
abbrev pub PostsAs : Result (Option Unwritten) BookFault → (Stored → Stored) → StateOf Content → StateOf Content → Type 0
PostsAs (Ok row) made old new =
    HasChanged (λ xs ys. ArePosted made xs (with_unwritten row ys)) old new
    × (new.is_clean ≡ true → IsUnwritten row new.content)
PostsAs (Err fault) made old new = Stays old new

-- a row as one of which there may be none
abbrev pub option_of : Result Unwritten BookFault → Result (Option Unwritten) BookFault
option_of (Ok row) = Ok (Some row)
option_of (Err fault) = Err fault

-- an account is changed, and one domain, or none, takes the place of another, or of none
pub record IsReplacedPosting (name : List ℕ) (made : Stored → Stored) (before after : Option Domain) (due : ℕ) (old new : Content) : Type 0 where
  pub posted : Content
  pub are_posted : ArePosted made old posted
  pub replaced : IsReplaced name before after due posted new
