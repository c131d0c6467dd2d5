-- What the texts of statements mean for the eleven tables.
use Rattle.std.specs.Prelude.{◌≡◌, ◌≢◌, ◌==◌, ℕ, ℤ, Bool, List, [], map, true, Option, Some}
use Rattle.std.specs.List.{list_any}
use Rattle.sqlite_value.specs.Order.{Row}
use Rattle.sqlite_trees.specs.Tree.{Trees}
use Rattle.sqlite_sql.specs.Query.{Query, IsAnswer, inner, end}
use Rattle.sqlite_sql.specs.Program.{overlay}
use Rattle.sqlite.specs.Does.{Tally}
use Rattle.sqlite.specs.Effect.{Database}
use Rattle.sqlite.specs.Given.{IsPlain}
use Rattle.sqlite.specs.Listing.{understood}
use Rattle.sqlrows.specs.inner.Layouts.{IsSelect, Leads, command_of, writes_tables}
use Rattle.sqltables.specs.Content.{Content}
use Rattle.sqltables.specs.inner.Content.{IsContent}
use Rattle.sqltables.specs.Tables.{registry}

-- one of the tables lies in this tree
abbrev pub is_table : ℕ → Bool
is_table tree = list_any (λ t. t.tree == tree) registry.tables

-- each table is as it was, but for the one in this tree
abbrev pub AreOthersSame : ℕ → Trees → Trees → Type 0
AreOthersSame written old new =
    (tree : ℕ) → is_table tree ≡ true → tree ≢ written → new tree ≡ old tree

-- the query is of the table in this tree alone
pub record IsOfTable (tree : ℕ) (query : Query) : Type 0 where
  pub from : query.from ≡ inner tree end
  pub table : is_table tree ≡ true

-- the text asks the table in this tree for these records, whatever the tables hold
pub record Asks {R : Type 0} (tree : ℕ) (shown : R → Row) (sql : List ℕ) (params : Row) (f : Content → List R) : Type 0 where
  pub query : Query
  pub is : IsSelect registry sql query
  pub of : IsOfTable tree query
  pub means : (db : Trees) (xs : Content) (rows : List Row)
      → IsContent xs (record { schema = registry; trees = db })
      → IsAnswer query (overlay db []) params rows → rows ≡ map shown (f xs)

-- the text makes this of whatever the tables hold, and writes no table but the one in this tree
pub record Alters (tree : ℕ) (sql : List ℕ) (params : Row) (f : Content → Content) : Type 0 where
  pub plain : IsPlain (understood registry sql)
  pub writes : writes_tables (command_of (understood registry sql)) ≡ true
  pub means : (limit : Option ℕ) (text : List ℕ) (db : Trees) (tally : Tally) (after : Database) (xs : Content) → IsContent xs (record { schema = registry; trees = db })
      → Leads registry sql params limit text db tally after → IsContent (f xs) after
  pub others : (limit : Option ℕ) (text : List ℕ) (db : Trees) (tally : Tally) (after : Database) (xs : Content) → IsContent xs (record { schema = registry; trees = db })
      → Leads registry sql params limit text db tally after → AreOthersSame tree db after.trees

-- the same of a text that adds a row, and the number that it gets
pub record Appends (tree : ℕ) (sql : List ℕ) (params : Row) (f : Content → Content) (number : Content → ℤ) : Type 0 where
  pub alters : Alters tree sql params f
  pub last : (limit : Option ℕ) (text : List ℕ) (db : Trees) (tally : Tally) (after : Database) (xs : Content) → IsContent xs (record { schema = registry; trees = db })
      → Leads registry sql params limit text db tally after → tally.last ≡ Some (number xs)
