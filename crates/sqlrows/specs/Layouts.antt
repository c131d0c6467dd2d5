-- The shapes of statement, over typed rows of one table.
use Rattle.std.specs.Prelude.{◌≡◌, ℕ, ℤ}
use Rattle.sqlite_value.specs.declared.value.Value.TheVariants.{Int}
use Rattle.sqlite_value.specs.Order.{Row}
use Rattle.sqlite_trees.specs.Tree.{rowid}

-- how the rows of a type lie in a table
pub record Layout (X : Type 0) : Type 0 where
  pub tree : ℕ
  pub key : X → ℤ
  pub to_row : X → Row
  pub keyed : (x : X) → rowid (to_row x) ≡ Int (key x)
