-- A registry of the schema before this one, taken over.
use Rattle.std.specs.Prelude.{◌≡◌, ◌⊎◌, ℕ, Bool, true, false, List, map, Option, Some, None, Result, Ok, Err}
use Rattle.oldrows.specs.Copies.{renumbered}
use Rattle.oldrows.specs.Stored.{IsAsked, IsRead, OldState}
use Rattle.oldrows.specs.Stored as old
use Rattle.policy.specs.declared.schedule.Schedule.{Schedule}
use Rattle.policy.specs.declared.terms.Terms.{Terms}
use Rattle.policy.specs.Rules.{PolicyRules}
use Rattle.policy.specs.Terms.{continues, terms_of}
use Rattle.books.specs.Book.{Stored}
use Rattle.sqltables.specs.Content.{Content}
use Rattle.sqltables.specs.declared.line.LineRow.{LineRow}
use Rattle.takeover.specs.Graces.{with_grace_end}
use Rattle.states.specs.declared.fault.BookFault.{BookFault}
use Rattle.states.specs.declared.fault.BookFault.TheVariants as faults
use Rattle.states.specs.declared.readiness.Ready.TheVariants.{Empty, Used}
use Rattle.states.specs.States.{Answers, Closes, Has, Reads, Remains, StateOf}
use Rattle.takeover.specs.declared.migrating.MigrateFault.{MigrateFault}
use Rattle.takeover.specs.declared.migrating.MigrateFault.TheVariants.{Policy, Schema, Memory, Store}
use Rattle.sqlbook.specs.Meaning.{are_right, stored_of}

abbrev pub fault_of : BookFault → MigrateFault
fault_of faults.Memory = Memory
fault_of faults.Store = Store

-- the same rows under the number of today's schema
abbrev pub numbered_anew : Content → Content
numbered_anew xs = record xs { metas = map renumbered xs.metas }

-- each line with the end of its grace
abbrev pub lines_with_ends : Schedule → List LineRow → List LineRow
lines_with_ends days rows = map (with_grace_end days) rows

abbrev pub suits_in : PolicyRules → ℕ → Option Terms → Bool
suits_in p clock None = true
suits_in p clock (Some earlier) = continues clock (terms_of p) earlier

-- a policy that continues the one that a registry was used under, if it was used
abbrev pub suits : PolicyRules → Stored → Bool
suits p s = suits_in p s.registry.clock s.terms

abbrev pub with_days : PolicyRules → Option Terms → Option Terms
with_days p None = None
with_days p (Some terms) = Some (record terms { days = p.days })

-- the same registry under a policy's lengths of periods
abbrev pub redated : PolicyRules → Stored → Stored
redated p s = record s { terms = with_days p s.terms }

-- ---- what is said of the whole

-- there is something to take, and a place to put it
abbrev pub AreThere : OldState → StateOf Content → Type 0
AreThere from to = (from.readiness ≡ Used) × (to.readiness ≡ Empty)

-- and the policy continues the one that the registry was used under
abbrev pub MayBeTaken : PolicyRules → OldState → StateOf Content → Type 0
MayBeTaken p from to = AreThere from to × (suits p (stored_of from.content) ≡ true)

-- what an opening may find is the whole registry, with sums as right as they were
abbrev pub IsAll : PolicyRules → Content → Remains Content → Type 0
IsAll p from left =
    (left.readiness ≡ Used)
    × ((stored_of left.content ≡ redated p (stored_of from))
    × (are_right left.content ≡ are_right (numbered_anew from)))

-- A registry was taken over, and what it was taken from is as it was. What answered before still does.
pub record IsMigrated (p : PolicyRules) (from read : OldState) (to written : StateOf Content) : Type 0 where
  pub asked : IsAsked from read
  pub clean : written.is_clean ≡ true → to.is_clean ≡ true
  pub answers : Answers written
  pub closed : written.is_open ≡ false
  pub used : written.readiness ≡ Used
  pub source : from.readiness ≡ Used
  pub may : read.is_clean ≡ true → written.is_clean ≡ true → MayBeTaken p from to
  pub stored : read.is_clean ≡ true → written.is_clean ≡ true
      → stored_of written.content ≡ redated p (stored_of from.content)
  pub sums : read.is_clean ≡ true → written.is_clean ≡ true
      → are_right written.content ≡ are_right (numbered_anew from.content)
  pub lines_are : read.is_clean ≡ true → written.is_clean ≡ true
      → written.content.lines ≡ lines_with_ends p.days from.content.lines
  -- after a crash it is there
  pub leaves : read.is_clean ≡ true → written.is_honest ≡ true → (left : Remains Content)
      → Has written.crash_leaves left → IsAll p from.content left

-- neither is another: the policy doesn't suit
pub record IsUnsuited (p : PolicyRules) (from read : OldState) (to written : StateOf Content) : Type 0 where
  pub asked : IsAsked from read
  pub back : Closes to.content to written
  pub source : from.readiness ≡ Used
  pub there : written.is_clean ≡ true → AreThere from to
  pub differs : read.is_clean ≡ true → written.is_clean ≡ true
      → suits p (stored_of from.content) ≡ false

-- neither is another: there is nothing to take, or no place to put it
pub record IsElse (from read : OldState) (to written : StateOf Content) : Type 0 where
  pub same : read ≡ from
  pub back : Reads to written
  pub other : written.is_clean ≡ true → AreThere from to → ⊥

-- What was begun is undone. A crash may leave what it might have left before, or all, where a commit of it was tried.
-- What isn't a registry of the earlier schema is never told so.
pub record IsTried (p : PolicyRules) (from read : OldState) (to written : StateOf Content) : Type 0 where
  pub reads : IsRead from read
  pub source : from.readiness ≡ Used
  pub clean : written.is_clean ≡ true → to.is_clean ≡ true
  pub honest : written.is_honest ≡ true → to.is_honest ≡ true
  pub closed : written.is_open ≡ false
  pub content : written.is_clean ≡ true → written.content ≡ to.content
  pub ready : written.readiness ≡ to.readiness
  pub leaves : old.Answers from → read.is_honest ≡ true → written.is_honest ≡ true
      → (left : Remains Content) → Has written.crash_leaves left
      → Has to.crash_leaves left ⊎ (MayBeTaken p from to × IsAll p from.content left)

abbrev pub Migrates : {A : Type 0} → Result A MigrateFault → PolicyRules → OldState → OldState
    → StateOf Content → StateOf Content → Type 0
Migrates (Ok done) p from read to written = IsMigrated p from read to written
Migrates (Err Policy) p from read to written = IsUnsuited p from read to written
Migrates (Err Schema) p from read to written = IsElse from read to written
Migrates (Err Memory) p from read to written = IsTried p from read to written
Migrates (Err Store) p from read to written = IsTried p from read to written
