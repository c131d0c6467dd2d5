-- The files of a takeover, and what an opening of them after a crash finds.
use Rattle.std.specs.Prelude.{◌≡◌, ◌⊎◌, true, Some, Result, Ok, Err}
use Rattle.sqlite_disk.specs.declared.Disk.{Ghosts}
use Rattle.sqlite_disk.specs.declared.Files.{Files}
use Rattle.sqlite_wal.specs.Files.{outcomes}
use Rattle.sqlite_wal.specs.Recovery.{Image}
use Rattle.sqlite_trees.specs.Tree.{Trees}
use Rattle.policy.specs.declared.terms.Terms.{Terms}
use Rattle.policy.specs.Rules.{PolicyRules}
use Rattle.oldrows.specs.Stored.{IsRead, OldState}
use Rattle.oldrows.specs.Stored as old
use Rattle.oldrows.specs.inner.Adoption as adopted
use Rattle.oldrows.specs.inner.Stored.{IsLeftAsOld, IsSameOld}
use Rattle.sqltables.specs.Adoption.{IsAdopted}
use Rattle.sqltables.specs.Content.{Content}
use Rattle.sqltables.specs.inner.Reopening.{IsContentFoundAgain, AreRowsReopened}
use Rattle.sqlbook.specs.Files.{IsFoundIn}
use Rattle.sqlbook.specs.Meaning.{are_right, stored_of}
use Rattle.states.specs.States.{Has, Remains, StateOf}
use Rattle.states.specs.declared.readiness.Ready.TheVariants.{Used}
use Rattle.takeover.specs.declared.migrating.MigrateFault.{MigrateFault}
use Rattle.takeover.specs.declared.migrating.MigrateFault.TheVariants.{Policy, Schema, Memory, Store}
use Rattle.takeover.specs.Migrating.{Migrates, numbered_anew, redated}

-- Files under rows: what a crash leaves of them is, once it is opened and adopted, one of what the rows told.
abbrev pub AreOver : {D : Type 0} → Ghosts D → Files D → StateOf Content → Type 0
AreOver g files rows =
    (image : Image) → outcomes g files.log files.db image → (trees : Trees) → IsFoundIn image trees
    → (again : StateOf Content) → IsAdopted trees again → again.is_clean ≡ true
    → ∥ AreRowsReopened rows.crash_leaves again ∥₁

-- Files under rows of the schema before: what a crash leaves of them is, once it is opened, what was told.
abbrev pub AreOverOld : {D : Type 0} → Ghosts D → Files D → OldState → Type 0
AreOverOld g files rows =
    (image : Image) → outcomes g files.log files.db image → (trees : Trees) → IsFoundIn image trees
    → ∥ ((left : Remains Content) × Has rows.crash_leaves left × IsLeftAsOld left trees) ∥₁

-- ---- the law

-- The files that a registry is taken from hold, after a crash, the registry that was found in them.
abbrev pub OldFilesStay : {D : Type 0} → Ghosts D → Type 0
OldFilesStay {D} g =
    (files : Files D) (found : Trees) (from read : OldState)
    → adopted.IsOldAdopted found from → IsRead from read → read.is_honest ≡ true → AreOverOld g files read
    → (image : Image) → outcomes g files.log files.db image → (trees : Trees) → IsFoundIn image trees
    → ∥ IsSameOld found trees ∥₁

-- what was there before is found again
abbrev pub IsAsBefore : StateOf Content → StateOf Content → Type 0
IsAsBefore to again = IsContentFoundAgain to.readiness to.content again.readiness again.content

-- the registry that was to be taken over is found, whole
abbrev pub IsFoundComplete : PolicyRules → OldState → StateOf Content → Type 0
IsFoundComplete p from again =
    (again.readiness ≡ Used) × (stored_of again.content ≡ redated p (stored_of from.content))

-- all or nothing; all, once it was taken over; and nothing, if it was refused
abbrev pub IsThereAfter : {A : Type 0} → Result A MigrateFault → PolicyRules → OldState → StateOf Content
    → StateOf Content → Type 0
IsThereAfter (Ok done) p from to again = IsFoundComplete p from again
IsThereAfter (Err Policy) p from to again = IsAsBefore to again
IsThereAfter (Err Schema) p from to again = IsAsBefore to again
IsThereAfter (Err Memory) p from to again = IsAsBefore to again ⊎ IsFoundComplete p from again
IsThereAfter (Err Store) p from to again = IsAsBefore to again ⊎ IsFoundComplete p from again

-- The files that it is taken over into hold, after a crash, all or nothing of it: of a registry with right sums that
-- was opened under terms.
abbrev pub NewFilesHoldAllOrNothing : {D : Type 0} → Ghosts D → Type 0
NewFilesHoldAllOrNothing {D} g =
    (files : Files D) (p : PolicyRules) (place : Trees) (from read : OldState) (to written : StateOf Content)
    (result : Result (Unit {0}) MigrateFault)
    → Migrates result p from read to written → old.Answers from → read.is_honest ≡ true
    → IsAdopted place to → written.is_honest ≡ true
    → are_right (numbered_anew from.content) ≡ true → (terms : Terms) → (stored_of from.content).terms ≡ Some terms
    → AreOver g files written
    → (image : Image) → outcomes g files.log files.db image → (trees : Trees) → IsFoundIn image trees
    → (again : StateOf Content) → IsAdopted trees again → again.is_clean ≡ true
    → ∥ IsThereAfter result p from to again ∥₁
