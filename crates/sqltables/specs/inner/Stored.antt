-- The state of a store of rows, by its database.
use Rattle.std.specs.Prelude.{◌≡◌, ◌&&◌, Bool, true, false, if◌then◌else◌, List, [], ◌∷◌, map, IsTrue, ⊤}
use Rattle.sqlite.specs.Effect.{Database}
use Rattle.sqlite.specs.State.{State, HasCleanDisk}
use Rattle.sqlite_trees.specs.Tree.{Trees}
use Rattle.sqlrows.specs.Columns.{no_schema}
use Rattle.sqltables.specs.Content.{Content}
use Rattle.sqltables.specs.inner.Content.{IsContent}
use Rattle.sqltables.specs.Decoding.{contents}
use Rattle.sqltables.specs.declared.form.Form.{Form}
use Rattle.sqltables.specs.declared.form.Form.TheVariants.{Unused, Making, Made, Other}
use Rattle.sqltables.specs.Stored.{fresh, Covers}
use Rattle.states.specs.States.{Remains, StateOf}
use Rattle.states.specs.declared.readiness.Ready.{Ready}
use Rattle.states.specs.declared.readiness.Ready.TheVariants as readiness

abbrev pub readiness_of : Form → Ready
readiness_of Unused = readiness.Empty
readiness_of Making = readiness.Empty
readiness_of Made = readiness.Used
readiness_of Other = readiness.Other

abbrev pub has_rows : Form → Bool
has_rows Unused = false
has_rows Making = true
has_rows Made = true
has_rows Other = false

-- once the open transaction is undone
abbrev pub undone : Form → Form
undone Unused = Unused
undone Making = Unused
undone Made = Made
undone Other = Other

-- once it is committed
abbrev pub committed : Form → Form
committed Unused = Unused
committed Making = Made
committed Made = Made
committed Other = Other

-- the rows that a database holds
abbrev pub rows_in : Form → Trees → Content
rows_in form db = if has_rows form then contents db else fresh

-- what an opening finds of it, once what is seen now is kept
abbrev pub left_in : Form → State → Remains Content
left_in form s = record { readiness = readiness_of form; content = rows_in form s.now.trees }

-- the same of several
abbrev pub leaves_of : {C : Type 0} → (C → State) → List (C × Form) → List (Remains Content)
leaves_of {C} state-of items = map (λ (it : C × Form). left_in it.1 (state-of it.0)) items

-- While a transaction is open, going back leads to the last commit.
abbrev pub store_state : Form → Bool → State → List (Remains Content) → StateOf Content
store_state form begun s leaves = record {
  content = rows_in form s.now.trees;
  before = if begun then rows_in (undone form) s.committed.trees else rows_in form s.now.trees;
  is_open = begun;
  is_clean = s.is_clean && s.is_open;
  is_honest = s.is_clean;
  readiness = readiness_of form;
  crash_leaves = leaves;
}

-- each row of the eleven tables is a record's
abbrev pub HoldsRows : Database → Type 0
HoldsRows db = IsContent (contents db.trees) db

-- by what the transaction sees, and by what the last commit left
abbrev pub Bears : Form → Database → Database → Type 0
Bears Unused now committed = (now.schema ≡ no_schema) × (committed.schema ≡ no_schema)
Bears Making now committed = HoldsRows now × (committed.schema ≡ no_schema)
Bears Made now committed = HoldsRows now × HoldsRows committed
Bears Other now committed = ⊤

-- Without a transaction nothing waits for a commit, and no table is being made.
pub record AgreesWithForm (form : Form) (begun : Bool) (s : State) : Type 0 where
  pub mode : s.in_transaction ≡ begun
  pub bears : Bears form s.now s.committed
  pub settled : begun ≡ false → s.now ≡ s.committed
  pub making : begun ≡ false → undone form ≡ form

-- while the disk is clean and the connection open
abbrev pub Fits : Form → Bool → State → Type 0
Fits form begun s = HasCleanDisk s → IsTrue s.is_open → AgreesWithForm form begun s

-- While the disk is clean, the connection is open as long as a transaction is, and nothing but these may be left.
pub record Guards (begun : Bool) (s : State) (leaves : List (Remains Content)) : Type 0 where
  pub opened : HasCleanDisk s → begun ≡ true → IsTrue s.is_open
  pub covers : HasCleanDisk s → Covers leaves s.may_leave

-- nothing was made, no transaction is open, and nothing wrong was taken
pub record IsNew (s : StateOf Content) : Type 0 where
  pub content : s.content ≡ fresh
  pub before : s.before ≡ fresh
  pub idle : s.is_open ≡ false
  pub clean : s.is_clean ≡ true
  pub empty : s.readiness ≡ readiness.Empty
  pub leaves : s.crash_leaves ≡ record { readiness = readiness.Empty; content = fresh } ∷ []
