-- How the program ends where a registry of the schema before this one is taken over, and where it isn't.
use Rattle.std.specs.Prelude.{◌≡◌, ◌⊎◌, Result, Ok, Err, ⊤}
use Rattle.oldrows.specs.inner.Adoption.{IsOldAdopted}
use Rattle.oldrows.specs.Stored.{OldState}
use Rattle.policy.specs.Rules.{PolicyRules}
use Rattle.registry.specs.declared.fault.OpenFault.TheVariants as opening
use Rattle.script.specs.Exits.{exit_of_book}
use Rattle.script.specs.declared.exit.Exit.{Exit}
use Rattle.script.specs.declared.exit.Exit.TheVariants as exits
use Rattle.sqlite_trees.specs.Tree.{Trees}
use Rattle.sqltables.specs.Adoption.{IsAdopted}
use Rattle.sqltables.specs.Content.{Content}
use Rattle.sqltables.specs.declared.adoption.Unadopted.{Unadopted}
use Rattle.sqltables.specs.declared.adoption.Unadopted.TheVariants as unadopted
use Rattle.states.specs.States.{StateOf}
use Rattle.states.specs.declared.fault.BookFault.{BookFault}
use Rattle.takeover.specs.Migrating.{Migrates}
use Rattle.takeover.specs.declared.migrating.MigrateFault.{MigrateFault}
use Rattle.takeover.specs.declared.migrating.MigrateFault.TheVariants as faults

abbrev pub exit_of_migration : MigrateFault → Exit
exit_of_migration faults.Policy = exits.Open opening.Policy
exit_of_migration faults.Schema = exits.Open opening.Schema
exit_of_migration faults.Memory = exits.Memory
exit_of_migration faults.Store = exits.Open opening.Store

-- what comes of a takeover that was tried
abbrev pub exit_after : {A : Type 0} → Result A MigrateFault → Exit
exit_after (Ok done) = exits.Done
exit_after (Err fault) = exit_of_migration fault

abbrev pub exit_of_unadopted : Unadopted → Exit
exit_of_unadopted unadopted.Other = exits.Open opening.Schema
exit_of_unadopted unadopted.Memory = exits.Memory
exit_of_unadopted unadopted.Store = exits.Open opening.Store

-- What one database holds was taken over into another, or not, and the program ends as that ended.
abbrev pub EndsTakeover : PolicyRules → (from read : OldState) → (to written : StateOf Content) → Exit
    → Type 0
EndsTakeover p from read to written exit =
    (tried : Result ⊤ MigrateFault) × Migrates tried p from read to written × (exit ≡ exit_after tried)

-- the same of two databases that had these trees, and hold this afterwards
abbrev pub EndsMigration : PolicyRules → (from to : Trees) → OldState → StateOf Content → Exit → Type 0
EndsMigration p from to read written exit =
    (old : OldState) × (new : StateOf Content) × IsOldAdopted from old × IsAdopted to new
    × EndsTakeover p old read new written exit

-- one of them isn't taken up
abbrev pub EndsUnadopted : Exit → Type 0
EndsUnadopted exit =
    ((fault : BookFault) × (exit ≡ exit_of_book fault))
    ⊎ ((cause : Unadopted) × (exit ≡ exit_of_unadopted cause))
