-- A database of the schema before this one, read anew.
use Rattle.std.specs.Prelude.{◌≡◌, Bool, true, false, List, [], ◌∷◌}
use Rattle.std.specs.Ordering.{int_eq}
use Rattle.sqlite_catalog.specs.Listing.{IsSound}
use Rattle.sqlite_trees.specs.Tree.{Trees}
use Rattle.states.specs.declared.readiness.Ready.{Ready}
use Rattle.states.specs.declared.readiness.Ready.TheVariants.{Empty, Used, Other}
use Rattle.sqltables.specs.Content.{Content, no_content}
use Rattle.sqltables.specs.declared.meta.MetaRow.{MetaRow}
use Rattle.sqltables.specs.inner.FirstTables.{first_number, first_registry}
use Rattle.oldrows.specs.Stored.{Answers, OldState}
use Rattle.oldrows.specs.inner.Stored.{IsLeftAsOld, IsSeenAs, IsShapedAsOld, old_contents}
use Rattle.states.specs.States.{Has, Remains}

-- the table `meta` has one row, and in it the number of that schema
abbrev pub is_first : List MetaRow → Bool
is_first [] = false
is_first (meta ∷ []) = int_eq meta.version first_number
is_first (meta ∷ other ∷ more) = false

-- each of these is what this database is
abbrev pub AreOf : Trees → List (Remains Content) → Type 0
AreOf trees leaves = (left : Remains Content) → Has leaves left → IsLeftAsOld left trees

pub record IsSeen (trees : Trees) (s : OldState) : Type 0 where
  pub content : s.is_clean ≡ true → IsSeenAs s.readiness trees s.content
  pub shaped : s.is_clean ≡ true → IsShapedAsOld s.readiness trees
  pub answers : Answers s
  pub leaves : s.is_clean ≡ true → AreOf trees s.crash_leaves

-- the rows are seen where they have the number
abbrev pub IsTakenAsOld : Ready → Trees → Content → Type 0
IsTakenAsOld Used trees content = (content ≡ old_contents trees) × (is_first content.metas ≡ true)
IsTakenAsOld Empty trees content = content ≡ no_content
IsTakenAsOld Other trees content = content ≡ no_content

-- Whether it is a registry of that schema, exactly: it has these tables, no other, and the number.
abbrev pub IsKnownAsOld : Ready → Trees → Type 0
IsKnownAsOld Used trees = IsSound first_registry trees × (is_first (old_contents trees).metas ≡ true)
IsKnownAsOld Empty trees = ⊥
IsKnownAsOld Other trees = IsSound first_registry trees → is_first (old_contents trees).metas ≡ false

pub record IsOldAdopted (trees : Trees) (s : OldState) : Type 0 where
  pub content : s.is_clean ≡ true → IsTakenAsOld s.readiness trees s.content
  pub known : s.is_clean ≡ true → IsKnownAsOld s.readiness trees
  pub answers : Answers s
  pub leaves : s.is_clean ≡ true → AreOf trees s.crash_leaves
