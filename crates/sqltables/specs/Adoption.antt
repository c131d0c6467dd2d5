-- A database that was used before, read anew.
use Rattle.std.specs.Prelude.{◌≡◌, ◌⊎◌, false, true, [], ◌∷◌}
use Rattle.std.specs.List.{AllByRecursion}
use Rattle.sqlite_trees.specs.declared.store.Shape.TheVariants.{Table}
use Rattle.sqlite_trees.specs.Tree.{Trees}
use Rattle.sqlite_trees.specs.View.{IsShaped}
use Rattle.sqlite_catalog.specs.Listing.{IsSound}
use Rattle.sqlite.specs.Effect.{Database, IsDatabase}
use Rattle.sqlite.specs.State.{State, HasCleanDisk, Opens}
use Rattle.states.specs.States.{StateOf}
use Rattle.states.specs.declared.readiness.Ready.{Ready}
use Rattle.states.specs.declared.readiness.Ready.TheVariants.{Empty, Used, Other}
use Rattle.sqltables.specs.Content.{Content}
use Rattle.sqltables.specs.Decoding.{contents}
use Rattle.sqltables.specs.Readiness.{IsKnownAs, is_numbered}
use Rattle.sqltables.specs.Stored.{fresh}
use Rattle.sqltables.specs.Tables.{registry}

-- the rows of each table lie in the order of their numbers
abbrev pub IsInOrder : Database → Type 0
IsInOrder db = AllByRecursion (λ t. IsShaped Table (db.trees t.tree)) db.schema.tables

-- what is known of a connection whose database was read anew
abbrev pub IsFound : State → Type 0
IsFound s = HasCleanDisk s → Opens s × IsDatabase s.now × IsInOrder s.now

-- a crash may leave what is seen, and nothing else
abbrev pub LeavesIt : StateOf Content → Type 0
LeavesIt s = s.crash_leaves ≡ record { readiness = s.readiness; content = s.content } ∷ []

-- a registry's rows are seen where they have the number of this schema
abbrev pub IsTakenAs : Ready → Trees → Content → Type 0
IsTakenAs Used trees content = (content ≡ contents trees) × (is_numbered content.metas ≡ true)
IsTakenAs Empty trees content = content ≡ fresh
IsTakenAs Other trees content = content ≡ fresh

pub record IsAdopted (trees : Trees) (s : StateOf Content) : Type 0 where
  pub idle : s.is_open ≡ false
  pub before : s.before ≡ s.content
  pub content : s.is_clean ≡ true → IsTakenAs s.readiness trees s.content
  pub known : s.is_clean ≡ true → IsKnownAs s.readiness trees
  pub answers : s.is_honest ≡ true → s.is_clean ≡ true
  pub leaves : s.is_clean ≡ true → LeavesIt s

-- ---- what an adoption that failed leaves

-- the tables of a registry, with the same rows
pub record IsSameRegistry (was db : Trees) : Type 0 where
  pub had : IsSound registry was
  pub has : IsSound registry db
  pub rows : contents db ≡ contents was

-- What may be left is what might have been left before, or the registry that was committed.
abbrev pub LeavesAsItWas : State → (Trees → Type 0) → Type 0
LeavesAsItWas was may_leave =
    (db : Trees) → may_leave db → was.may_leave db ⊎ IsSameRegistry was.committed.trees db

-- Of a database that was found, what may be left is that database, or the registry in it.
abbrev pub LeavesAsFound : Trees → (Trees → Type 0) → Type 0
LeavesAsFound found may_leave = (db : Trees) → may_leave db → (db ≡ found) ⊎ IsSameRegistry found db
