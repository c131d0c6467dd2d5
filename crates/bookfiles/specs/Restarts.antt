-- A registry in a file, and what is found of it after the machine stopped.
use Rattle.std.specs.Prelude.{◌≡◌, ℕ, true, [], ◌∷◌}
use Rattle.sqlite_disk.specs.declared.Disk.{Ghosts}
use Rattle.sqlite_disk.specs.declared.Files.{Files}
use Rattle.sqlite_wal.specs.Files.{outcomes}
use Rattle.sqlite_wal.specs.Recovery.{Image}
use Rattle.sqlite_trees.specs.Objects.{catalog_tree}
use Rattle.policy.specs.Rules.{PolicyRules}
use Rattle.registry.specs.Opening.{Opens}
use Rattle.runs.specs.Crashes.{Happened, Happens, answered, crash, opening}
use Rattle.books.specs.Book.{BookState, Follows, LeavesItself}
use Rattle.books.specs.Kept.{book_state}
use Rattle.books.specs.Reopening.{IsTakenUp}
use Rattle.sqltables.specs.Content.{Content}
use Rattle.states.specs.States.{StateOf}
use Rattle.sqlbook.specs.Files.{AreTakenIn, IsLeftIn}
use Rattle.sqlbook.specs.Meaning.{are_right, stored_of}
use Rattle.sqlbook.specs.AsBook.{as_book}

-- what rows are to a registry, where so many refusals were counted
abbrev pub book_of : StateOf Content → ℕ → BookState
book_of rows refused = book_state (as_book stored_of are_right rows) refused

-- The book was found in files that held this, and is opened under a policy.
pub record IsOpenedIn (image : Image) (p : PolicyRules) (new : BookState) : Type 0 where
  pub rows : StateOf Content
  pub refused : ℕ
  pub taken : rows.is_clean ≡ true → AreTakenIn image rows
  pub opens : Opens p (book_of rows refused) new
  pub leaves : LeavesItself new
  pub follows : Follows (book_of rows refused) new

-- The files of a book hold what a crash could leave of them, and a book is taken from them: a crash has happened.
abbrev pub StopsAreCrashes : {D : Type 0} → Ghosts D → Type 0
StopsAreCrashes {D} g =
    (files : Files D) (old : BookState) (image : Image) (rows : StateOf Content) (refused : ℕ)
    → IsLeftIn g files old → old.is_honest ≡ true → outcomes g files.log files.db image
    → AreTakenIn image rows → rows.is_clean ≡ true
    → ∥ Happens crash old (book_of rows refused) ∥₁

-- The same, and the registry in the files is opened under a policy.
abbrev pub RestartsAreEvents : {D : Type 0} → Ghosts D → Type 0
RestartsAreEvents {D} g =
    (files : Files D) (old : BookState) (image : Image) (p : PolicyRules) (new : BookState)
    → IsLeftIn g files old → old.is_honest ≡ true → outcomes g files.log files.db image
    → IsOpenedIn image p new → new.is_honest ≡ true
    → Happened (crash ∷ answered (opening p) ∷ []) old new

-- Files in which no table was ever made hold a book of the law, with nothing in it.
abbrev pub NewFilesAreBooks : Type 0
NewFilesAreBooks = (image : Image) (rows : StateOf Content) (refused : ℕ) (taken : AreTakenIn image rows) → taken.trees catalog_tree ≡ [] → IsTakenUp (book_of rows refused)
