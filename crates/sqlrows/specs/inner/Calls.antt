-- What a call on typed rows does to a connection.
use Rattle.std.specs.Prelude.{⊤, ◌≡◌, ◌⊎◌, ℕ, true, List, Result, OnOk, OnErr}
use Rattle.sqlite_value.specs.Order.{Row}
use Rattle.sqlite.specs.declared.error.Error.{Error}
use Rattle.sqlite.specs.State.{State, HasCleanDisk, IsUnchanged, IsRolledBack, Shows, Survives, Executes}
use Rattle.std.specs.Prelude.{Ok}
use Rattle.sqlite_trees.specs.Tree.{Trees}

-- after an error all is as it was, or the transaction is undone
abbrev pub StaysOrUndoes : State → State → Type 0
StaysOrUndoes old new = IsUnchanged old new ⊎ IsRolledBack old new

-- the transaction goes on, and nothing is committed
pub record StaysOpen (old new : State) : Type 0 where
  pub shown : Shows old new new.now old.committed true
  pub marks : new.marks ≡ old.marks

-- the text writes rows, or makes a table or an index, inside a transaction
pub record Writes (sql : List ℕ) (params : Row) (old new : State) (result : Result (Unit {0}) Error) : Type 0 where
  pub ran : HasCleanDisk new → OnOk result ((count : ℕ) × Executes sql params old new (Ok count))
  pub stays : HasCleanDisk new → OnOk result (StaysOpen old new)
  pub err : HasCleanDisk new → OnErr result (StaysOrUndoes old new)
  pub crash : Survives old new (λ _. ⊥)

-- whatever the call did: no fault is forgotten, and only a fault shuts the connection
abbrev pub ForgetsNoFault : State → State → Type 0
ForgetsNoFault old new = Survives old new (λ _. ⊤)

-- what a crash may leave is what it could leave before, or is this
abbrev pub LeavesOnly : State → State → (Trees → Type 0) → Type 0
LeavesOnly old new P = (db : Trees) → new.may_leave db → old.may_leave db ⊎ P db
