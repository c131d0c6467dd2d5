-- The state of a book over rows at the beginning.
use Rattle.std.specs.Prelude.{◌≡◌, ◌≢◌, ℕ, true, false, [], ◌∷◌}
use Rattle.sqlite_trees.specs.Objects.{catalog_tree}
use Rattle.sqlite_trees.specs.Tree.{Trees}
use Rattle.books.specs.Book.{BookState, Stored, never_opened}
use Rattle.books.specs.Kept.{book_state}
use Rattle.sqltables.specs.Adoption.{IsAdopted}
use Rattle.sqltables.specs.Content.{Content}
use Rattle.sqltables.specs.Decoding.{contents}
use Rattle.sqltables.specs.Readiness.{IsKnownAs}
use Rattle.states.specs.declared.readiness.Ready.{Ready}
use Rattle.states.specs.declared.readiness.Ready.TheVariants.{Empty, Used, Other}
use Rattle.states.specs.States.{StateOf}
use Rattle.sqlbook.specs.Meaning.{are_right, stored_of}
use Rattle.sqlbook.specs.AsBook.{as_book}

-- nothing is in it, it was never opened, and nothing wrong was taken
pub record IsUnused (s : BookState) : Type 0 where
  pub content : s.content ≡ never_opened
  pub before : s.before ≡ never_opened
  pub idle : s.is_open ≡ false
  pub clean : s.is_clean ≡ true
  pub refused : s.refused ≡ 0
  pub empty : s.readiness ≡ Empty
  pub leaves : s.crash_leaves ≡ record { readiness = Empty; content = never_opened } ∷ []

-- a registry of this program is what the rows mean, and of anything else nothing is seen
abbrev pub IsTaken : Ready → Trees → Stored → Type 0
IsTaken Used trees s = s ≡ stored_of (contents trees)
IsTaken Empty trees s = s ≡ never_opened
IsTaken Other trees s = s ≡ never_opened

-- No transaction is open, and while nothing wrong was taken it answers, says what the database is, holds what
-- it did, and a crash leaves that alone.
pub record IsTakenFrom (trees : Trees) (s : BookState) : Type 0 where
  pub idle : s.is_open ≡ false
  pub before : s.before ≡ s.content
  pub refused : s.refused ≡ 0
  pub known : s.is_clean ≡ true → IsKnownAs s.readiness trees
  pub content : s.is_clean ≡ true → IsTaken s.readiness trees s.content
  pub answers : s.is_honest ≡ true → s.is_clean ≡ true
  pub leaves : s.is_clean ≡ true
      → s.crash_leaves ≡ record { readiness = s.readiness; content = s.content } ∷ []

-- where no table was ever made, nothing is found
abbrev pub IsFoundNew : Trees → BookState → Type 0
IsFoundNew trees s =
    trees catalog_tree ≡ [] → s.is_clean ≡ true → (s.readiness ≡ Empty) × (s.content ≡ never_opened)

-- A book over rows that were taken up of these trees, which are a registry's of this program or nothing's yet: what
-- the book is and what the rows are; and it answers where its disk told the truth and the stored sums are right.
pub record IsAdoptedBook (trees : Trees) (rows : StateOf Content) (refused : ℕ) : Type 0 where
  pub book : IsTakenFrom trees (book_state (as_book stored_of are_right rows) refused)
  pub adopted : IsAdopted trees rows
  pub ours : rows.readiness ≢ Other
  pub answers : rows.is_honest ≡ true → are_right rows.content ≡ true
      → (book_state (as_book stored_of are_right rows) refused).is_clean ≡ true
  pub fresh : IsFoundNew trees (book_state (as_book stored_of are_right rows) refused)
