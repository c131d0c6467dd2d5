-- What an opening that failed gives back, and what is known of it.
use Rattle.std.specs.Prelude.{◌≡◌, ℕ, true, false, [], ◌∷◌, Option, Some, None, Result, Ok, Err}
use Rattle.sqlite_disk.specs.declared.Disk.{Ghosts}
use Rattle.sqlite_disk.specs.declared.Files.{Files}
use Rattle.sqlite_wal.specs.Files.{outcomes}
use Rattle.sqlite_wal.specs.Recovery.{Image}
use Rattle.sqlite_store.specs.declared.store.FileStore.{FileStore}
use Rattle.sqlite_store.specs.FileStore.{recovers}
use Rattle.sqlite_trees.specs.Tree.{Trees}
use Rattle.sqlite.specs.declared.error.Error.{Error}
use Rattle.sqlite.specs.declared.file.Leftover.{Leftover}
use Rattle.sqlite.specs.Files.{AreFoundIn, FailsToOpenFiles, IsCleanLeft, LeavesFiles}
use Rattle.policy.specs.Rules.{PolicyRules}
use Rattle.registry.specs.Calls.{IsRefused}
use Rattle.registry.specs.declared.fault.OpenFault.{OpenFault}
use Rattle.registry.specs.declared.fault.OpenFault.TheVariants as refusals
use Rattle.runs.specs.Crashes.{Happened, Happens, crash, opening}
use Rattle.runs.specs.CrashLaws.{refusal_event}
use Rattle.books.specs.Book.{BookState, Stored, may_leave}
use Rattle.sqltables.specs.Adoption.{IsAdopted, LeavesAsFound}
use Rattle.sqltables.specs.Content.{Content}
use Rattle.sqltables.specs.Readiness.{IsKnownAs}
use Rattle.sqltables.specs.inner.Faults as errors
use Rattle.sqltables.specs.declared.adoption.Unadopted.{Unadopted}
use Rattle.sqltables.specs.declared.adoption.Unadopted.TheVariants as unadopted
use Rattle.states.specs.States.{Remains, StateOf}
use Rattle.states.specs.declared.fault.BookFault.{BookFault}
use Rattle.states.specs.declared.fault.BookFault.TheVariants as faults
use Rattle.states.specs.declared.readiness.Ready.TheVariants.{Other}
use Rattle.sqlbook.specs.Files.{AreTakenIn, IsFoundIn, IsLeftIn}
use Rattle.bookfiles.specs.Restarts.{book_of}
use Rattle.bookfiles.specs.declared.unopened.Unopened.{Unopened}
use Rattle.bookfiles.specs.declared.unopened.Unopened.TheVariants.{Path, Files as AtFiles, Database, Book}

-- ---- why

abbrev pub of_fault : BookFault → OpenFault
of_fault faults.Memory = refusals.Memory
of_fault faults.Store = refusals.Store

abbrev pub of_unadopted : Unadopted → OpenFault
of_unadopted unadopted.Other = refusals.Schema
of_unadopted unadopted.Memory = refusals.Memory
of_unadopted unadopted.Store = refusals.Store

abbrev pub fault_of : {L W B : Type 0} → Unopened L W B → OpenFault
fault_of (Path cause) = of_fault cause.fault
fault_of (AtFiles fault left) = of_fault fault
fault_of (Database cause store) = of_unadopted cause
fault_of (Book fault book) = fault

-- what was opened, or why it wasn't
abbrev pub or_cause : {T L W B : Type 0} → Result T (Unopened L W B) → Result T OpenFault
or_cause (Ok it) = Ok it
or_cause (Err left) = Err (fault_of left)

-- ---- what is given back

-- files that weren't opened, or what is left of them
abbrev pub unconnected : {L W B : Type 0} → BookFault → Option L → Unopened L W B
unconnected fault None = Path (record { fault = fault })
unconnected fault (Some left) = AtFiles fault left

-- what was taken up, or what it was to be taken from
abbrev pub or_database : {T L W B : Type 0} → Result T (Unadopted × W) → Result T (Unopened L W B)
or_database (Ok it) = Ok it
or_database (Err (cause, store)) = Err (Database cause store)

-- The opening came so far at most, and this is known of what it gives back.
abbrev pub GivesBack : {L W B : Type 0} → (BookFault → L → Type 0) → (Unadopted → W → Type 0)
    → (OpenFault → B → Type 0)
    → Unopened L W B → Type 0
GivesBack of_files of_store of_book (Path cause) = Unit {0}
GivesBack of_files of_store of_book (AtFiles fault left) = of_files fault left
GivesBack of_files of_store of_book (Database cause store) = of_store cause store
GivesBack of_files of_store of_book (Book fault book) = of_book fault book

-- it didn't come so far
abbrev pub never_for : {F W : Type 0} → F → W → Type 0
never_for fault it = ⊥

-- A fault of an opening has its cause, but for want of memory: the files hold no database and aren't new, or a call
-- on them failed or was refused, or they are too long.
abbrev pub IsCaused : {D : Type 0} {g : Ghosts D} → Files D → Leftover D g → BookFault → Type 0
IsCaused files left fault = (error : Error) × (fault ≡ errors.fault_of error) × FailsToOpenFiles files left error

-- What is left of files that had just been opened: only where there was no database may anything have been written,
-- and then the next opening has to take it.
abbrev pub AreLeft : {D : Type 0} {g : Ghosts D} → (D → Type 0) → (D → Type 0) → BookFault → Leftover D g
    → Type 0
AreLeft {D} {g} fresh_log fresh_db fault left =
    (files : Files D) × fresh_log files.log × fresh_db files.db
    × (IsCleanLeft left → IsCaused files left fault × LeavesFiles files left)

-- A crash leaves the database that was found in files which held this, or the registry in it. Something else's it is
-- called only where it is.
pub record IsLeftAsFound (image : Image) (cause : Unadopted) (may_leave : Trees → Type 0) : Type 0 where
  pub trees : Trees
  pub found : IsFoundIn image trees
  pub reads : AreFoundIn image trees
  pub leaves : LeavesAsFound trees may_leave
  pub other : cause ≡ unadopted.Other → IsKnownAs Other trees

-- The book was found in files which held this, and was refused under a policy.
pub record IsRefusedIn (image : Image) (p : PolicyRules) (fault : OpenFault) (new : BookState) : Type 0 where
  pub rows : StateOf Content
  pub refused : ℕ
  pub taken : rows.is_clean ≡ true → AreTakenIn image rows
  pub answers : rows.is_honest ≡ true → rows.is_clean ≡ true
  pub idle : (book_of rows refused).is_open ≡ false
  pub refuses : IsRefused fault p (book_of rows refused) new

-- ---- what it comes to

-- Files hold what a crash could leave of a book, and an opening of them read a database and gave it back: whatever
-- that leaves is, once it is opened and adopted, what the crash could leave. So it is as if nobody had tried.
abbrev pub FailuresGoUnnoticed : {D : Type 0} → Ghosts D → Type 0
FailuresGoUnnoticed {D} g =
    (files : Files D) (old : BookState) (image : Image) (cause : Unadopted) (store : FileStore D g)
    → IsLeftIn g files old → old.is_honest ≡ true → outcomes g files.log files.db image
    → IsLeftAsFound image cause (recovers store) → (trees : Trees) → recovers store trees
    → (rows : StateOf Content) (refused : ℕ) → IsAdopted trees rows → rows.is_clean ≡ true
    → ∥ Happens crash old (book_of rows refused) ∥₁

-- The same where a book was taken from them and refused: whenever a crash may leave something of it, a crash has
-- happened, and then an opening that was refused or gave up.
abbrev pub RefusalsAreEvents : {D : Type 0} → Ghosts D → Type 0
RefusalsAreEvents {D} g =
    (files : Files D) (old : BookState) (image : Image) (p : PolicyRules) (fault : OpenFault) (new : BookState)
    → IsLeftIn g files old → old.is_honest ≡ true → outcomes g files.log files.db image
    → IsRefusedIn image p fault new → (left : Remains Stored) → may_leave new left
    → Happened (crash ∷ refusal_event fault (opening p) ∷ []) old new
