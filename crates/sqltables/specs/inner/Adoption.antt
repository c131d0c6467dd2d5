-- A database that was used before, read anew.
use Rattle.std.specs.Prelude.{◌≡◌, false, true}
use Rattle.sqlite_trees.specs.Tree.{Trees}
use Rattle.sqlite_catalog.specs.Listing.{IsSound}
use Rattle.sqlite.specs.Effect.{IsDatabase}
use Rattle.sqlite.specs.State.{State, Opens}
use Rattle.sqlrows.specs.Columns.{no_schema}
use Rattle.states.specs.States.{StateOf}
use Rattle.states.specs.declared.readiness.Ready.{Ready}
use Rattle.states.specs.declared.readiness.Ready.TheVariants.{Empty, Used, Other}
use Rattle.sqltables.specs.Content.{Content}
use Rattle.sqltables.specs.Decoding.{contents}
use Rattle.sqltables.specs.Stored.{fresh}
use Rattle.sqltables.specs.Tables.{registry}
use Rattle.sqltables.specs.Adoption.{IsInOrder, LeavesIt, IsSameRegistry}

-- the database is that of the last commit, no transaction is open, each row obeys the schema, and the rows lie in order
pub record IsReread (old new : State) : Type 0 where
  pub opens : Opens new
  pub sound : IsDatabase new.now
  pub trees : new.now.trees ≡ old.committed.trees
  pub in_order : IsInOrder new.now

-- by the tables alone all rows are seen, or none
abbrev pub IsSeenBy : Ready → Trees → Content → Type 0
IsSeenBy Used trees content = content ≡ contents trees
IsSeenBy Empty trees content = content ≡ fresh
IsSeenBy Other trees content = content ≡ fresh

-- by its tables alone the database is this
abbrev pub IsShapedAs : Ready → Trees → Type 0
IsShapedAs Used trees = IsSound registry trees
IsShapedAs Empty trees = IsSound no_schema trees
IsShapedAs Other trees = (IsSound no_schema trees → ⊥) × (IsSound registry trees → ⊥)

pub record IsShown (trees : Trees) (s : StateOf Content) : Type 0 where
  pub idle : s.is_open ≡ false
  pub before : s.before ≡ s.content
  pub content : s.is_clean ≡ true → IsSeenBy s.readiness trees s.content
  pub known : s.is_clean ≡ true → IsShapedAs s.readiness trees
  pub answers : s.is_honest ≡ true → s.is_clean ≡ true
  pub leaves : s.is_clean ≡ true → LeavesIt s

-- ---- what an adoption that failed leaves

-- what may be left is what might have been left before
abbrev pub LeavesNoMore : State → (Trees → Type 0) → Type 0
LeavesNoMore was may_leave = (db : Trees) → may_leave db → was.may_leave db

-- what may be left is that registry
abbrev pub LeavesSameRegistry : Trees → (Trees → Type 0) → Type 0
LeavesSameRegistry was may_leave = (db : Trees) → may_leave db → IsSameRegistry was db
