-- A book in files, and what an opening of them after a crash finds.
use Rattle.std.specs.Prelude.{◌≡◌, ℕ, true, []}
use Rattle.sqlite_disk.specs.declared.Disk.{Ghosts}
use Rattle.sqlite_disk.specs.declared.Files.{Files}
use Rattle.sqlite_wal.specs.Files.{outcomes}
use Rattle.sqlite_wal.specs.Recovery.{Image}
use Rattle.sqlite_trees.specs.Objects.{catalog_tree}
use Rattle.sqlite_trees.specs.Tree.{Trees}
use Rattle.sqlite.specs.Files.{AreFoundIn, HoldsDatabase}
use Rattle.books.specs.Book.{BookState}
use Rattle.books.specs.Kept.{book_state}
use Rattle.sqltables.specs.Adoption.{IsAdopted}
use Rattle.sqltables.specs.Content.{Content}
use Rattle.sqltables.specs.Stored.{fresh}
use Rattle.states.specs.declared.readiness.Ready.TheVariants.{Empty}
use Rattle.states.specs.States.{StateOf}
use Rattle.sqlbook.specs.Meaning.{are_right, stored_of}
use Rattle.books.specs.Reopening.{IsReopened}
use Rattle.sqlbook.specs.AsBook.{as_book}

-- what an opening finds that finds the database which the files hold, if they hold one
abbrev pub IsFoundIn : Image → Trees → Type 0
IsFoundIn image trees = (db : Trees) → HoldsDatabase image db → trees ≡ db

-- whatever a crash leaves of the files is, once it is opened and adopted, one of what the book returned
abbrev pub IsLeftIn : {D : Type 0} → Ghosts D → Files D → BookState → Type 0
IsLeftIn g files old =
    (image : Image) → outcomes g files.log files.db image → (trees : Trees) → IsFoundIn image trees
    → (new : StateOf Content) (again : ℕ) → IsAdopted trees new → new.is_clean ≡ true
    → ∥ IsReopened old (book_state (as_book stored_of are_right new) again) ∥₁

-- Rows that were adopted from files which hold this: a database that was found, or nothing, of which nothing is seen.
pub record AreTakenIn (image : Image) (s : StateOf Content) : Type 0 where
  pub trees : Trees
  pub found : IsFoundIn image trees
  pub reads : AreFoundIn image trees
  pub adopted : IsAdopted trees s
  pub first : trees catalog_tree ≡ [] → (s.readiness ≡ Empty) × (s.content ≡ fresh)
