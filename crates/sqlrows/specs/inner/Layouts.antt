-- The shapes of statement, over typed rows of one table.
use Rattle.std.specs.Prelude.{◌/◌, ◌++◌, length, drop, ◌≢◌, slice_get, true, ◌≡◌, ℕ, ℤ, pos, negsuc, Bool, false, List, [], ◌∷◌, map, Option, Some, None, Result, Ok, Err}
use Rattle.std.specs.declared.cmp.Ordering.{Ordering}
use Rattle.std.specs.Ordering.{int_cmp, on, then_cmp}
use Rattle.sqlite_value.specs.declared.value.Value.TheVariants.{Int, Null}
use Rattle.sqlite_value.specs.declared.keys.Collation.TheVariants.{Binary}
use Rattle.sqlite_value.specs.Keys.{ascending}
use Rattle.sqlite_value.specs.Order.{Row, column}
use Rattle.sqlite_trees.specs.Tree.{Trees, rowid}
use Rattle.sqlite_sql.specs.Query.{Query, inner, end}
use Rattle.sqlite_sql.specs.Term.{Term, lit, col, op2, eval_all}
use Rattle.sqlite_schema.specs.declared.schema.Table.{Table}
use Rattle.sqlite_schema.specs.declared.schema.Schema.{Schema}
use Rattle.sqlite_schema.specs.declared.command.Command.{Command}
use Rattle.sqlite_schema.specs.declared.command.Command.TheVariants.{Select, Insert, Update, Delete, InsertOr, CreateTable, CreateIndex, Nothing}
use Rattle.sqlite_resolve.specs.declared.compiled.Compiled.{Compiled}
use Rattle.sqlite_resolve.specs.declared.error.CompileError.{CompileError}
use Rattle.sqlite.specs.Listing.{understood, reads_listing}
use Rattle.sqlite.specs.Given.{IsPlain}
use Rattle.sqlite_keyed.specs.Keyed.{IsKeyedBy, next_key}
use Rattle.std.specs.List.{AllByRecursion, list_any}
use Rattle.sqlite_value.specs.declared.value.Value.{Value}
use Rattle.sqlite_sql.specs.declared.ops.CompareOp.TheVariants.{Eq}
use Rattle.sqlite_sql.specs.declared.ops.BinaryOp.TheVariants.{Compare}
use Rattle.sqlite_schema.specs.declared.command.Conflict.TheVariants.{Abort}
use Rattle.sqlite_schema.specs.declared.command.Source.TheVariants.{Values}
use Rattle.sqlite_rules.specs.Keys.{shares}
use Rattle.sqlite.specs.Does.{Does, Tally}
use Rattle.sqlite.specs.declared.run.Mode.{Mode}
use Rattle.sqlite.specs.Effect.{value_rows}
use Rattle.sqlite.specs.Rows.{stamped, shown}
use Rattle.sqlite.specs.Effect.{Database}
use Rattle.sqlite_schema.specs.declared.schema.Keys.TheVariants.{Enforced}
use Rattle.sqlite_rules.specs.Action.{works}
use Rattle.sqlite_rules.specs.Cast.{cast_row}
use Rattle.sqlrows.specs.Layouts.{Layout}

abbrev pub command_of : Result Compiled CompileError → Command
command_of (Ok c) = c.command
command_of (Err e) = Nothing

-- the rows of the table, in the order of their keys
pub record Holds {X : Type 0} (L : Layout X) (db : Trees) (xs : List X) : Type 0 where
  pub rows : db L.tree ≡ map L.to_row xs
  pub keyed : IsKeyedBy L.key xs

-- the limit where none is said
abbrev pub no_limit : Term
no_limit = lit (Int (negsuc 0))

-- the rows that pass, by key
abbrev pub select_query : ℕ → List Term → List Term → Query
select_query tree filter project = record {
  from = inner tree end;
  filter = filter;
  group = None;
  project = project;
  distinct = false;
  collations = [];
  order = (col 1 0, ascending Binary) ∷ [];
  limit = no_limit;
  offset = lit (Int (pos 0));
}

-- the same, and no more than the limit, if that is a number that isn't below 0
abbrev pub limited_query : ℕ → List Term → List Term → Term → Query
limited_query tree filter project limit =
    record (select_query tree filter project) { limit = limit }

-- the rows that pass, in the order of some columns and then by key, and no more than the limit, if that is a number that isn't below 0
abbrev pub sorted_query : ℕ → List Term → List Term → List Term → Term → Query
sorted_query tree filter project columns limit = record (select_query tree filter project) {
  order = map (λ t. (t, ascending Binary)) (columns ++ col 1 0 ∷ []);
  limit = limit;
}

-- by each of these in turn, and then by key
abbrev pub by_then_key : {X : Type 0} → Layout X → List (X → X → Ordering) → X → X → Ordering
by_then_key L [] = on L.key int_cmp
by_then_key L (cmp ∷ more) = then_cmp cmp (by_then_key L more)

-- the text is one query, with this meaning
pub record IsSelect (schema : Schema) (sql : List ℕ) (q : Query) : Type 0 where
  pub names : List (List ℕ)
  pub command : command_of (understood schema sql) ≡ Select (record { lets = []; body = q }) names
  pub plain : IsPlain (understood schema sql)
  pub unlisted : reads_listing schema sql ≡ false

-- the rowids of the rows that pass
abbrev pub chosen_query : ℕ → List Term → List Term → Query
chosen_query tree filter project = record (select_query tree filter project) { order = [] }

pub record IsDelete (schema : Schema) (sql : List ℕ) (at tree : ℕ) (filters : List Term) : Type 0 where
  pub command : command_of (understood schema sql) ≡ Delete at (record { lets = []; body = chosen_query tree filters (col 1 0 ∷ []) })
  pub plain : IsPlain (understood schema sql)

-- an update of the rows that pass: the columns after the rowid, as it leaves them
pub record IsUpdate (schema : Schema) (sql : List ℕ) (at tree : ℕ) (filters sets : List Term) : Type 0 where
  pub command : command_of (understood schema sql) ≡ Update at (record { lets = []; body = chosen_query tree filters (col 1 0 ∷ sets) })
  pub plain : IsPlain (understood schema sql)

-- what the update makes of a row is another one, with its key
pub record Renews {X : Type 0} (L : Layout X) (sets : List Term) (params : Row) (f : X → X) : Type 0 where
  pub row : (x : X) → eval_all sets (params ∷ L.to_row x ∷ []) ≡ L.to_row (f x)
  pub key : (x : X) → L.key (f x) ≡ L.key x

-- the table has these rows, and each other table is as it was
pub record Sets {X : Type 0} (L : Layout X) (schema : Schema) (old new : Database) (xs : List X) : Type 0 where
  pub same : new.schema ≡ schema
  pub holds : Holds L new.trees xs
  pub others : AllByRecursion (λ t. t.tree ≢ L.tree → new.trees t.tree ≡ old.trees t.tree) schema.tables

-- the place of the table in the schema, which no foreign key acts on
pub record Listed {X : Type 0} (L : Layout X) (schema : Schema) (at : ℕ) (table : Table) : Type 0 where
  pub is : slice_get schema.tables at ≡ Some table
  pub tree : table.tree ≡ L.tree
  pub quiet : (tree : ℕ) (olds news : List Row) → works schema Enforced 0 tree olds news ≡ []
  pub uncounted : table.is_counted ≡ false
  pub unstamped : table.stamps ≡ record { places = []; terms = []; formats = [] }
  pub casts : (x : X) → cast_row table (L.to_row x) ≡ L.to_row x

-- an upsert by key: the terms of VALUES, and what the update makes of the columns after the rowid
abbrev pub put_command : ℕ → ℕ → ℕ → List Term → List Term → Command
put_command at tree given terms sets = InsertOr at Abort (Values terms (length terms)) (record {
  target = Some (0 ∷ []);
  update = Some (record { lets = []; body = chosen_query tree (op2 (Compare Eq Binary) (col 1 0) (col 0 given) ∷ []) (col 1 0 ∷ sets) });
} ∷ [])

pub record IsPut (schema : Schema) (sql : List ℕ) (at tree given : ℕ) (terms sets : List Term) : Type 0 where
  pub command : command_of (understood schema sql) ≡ put_command at tree given terms sets
  pub plain : IsPlain (understood schema sql)

-- the parameters of a row, from which VALUES makes it, and so does the update of a row with its key
pub record Gives {X : Type 0} (L : Layout X) (schema : Schema) (table : Table) (given : ℕ) (terms sets : List Term) (params : X → Row) : Type 0 where
  pub values : (x : X) → value_rows (stamped table (params x)) (length terms) (length terms / length terms) terms ≡ L.to_row x ∷ []
  pub place : (x : X) (v : Value) → column (params x ++ v ∷ shown table (L.to_row x)) given ≡ v
  pub updates : (x : X) (v : Value) (r : Row) → eval_all sets ((params x ++ v ∷ shown table (L.to_row x)) ∷ r ∷ []) ≡ rowid r ∷ drop 1 (L.to_row x)
  pub unshared : (new r : Row)
      → list_any (shares (Some (0 ∷ [])) table new r) schema.indexes ≡ false
  pub headed : (x : X) → rowid (L.to_row x) ∷ drop 1 (L.to_row x) ≡ L.to_row x

-- the rows, and after them one that is made for the next key: one above the last, and 1 in an empty table
abbrev pub appended : {X : Type 0} → Layout X → (ℤ → X) → List X → List X
appended L numbered xs = xs ++ numbered (next_key L.key xs) ∷ []

-- an insertion of a row that has no key yet: the terms of VALUES
pub record IsAppend (schema : Schema) (sql : List ℕ) (at : ℕ) (terms : List Term) : Type 0 where
  pub command : command_of (understood schema sql) ≡ Insert at (Values terms (length terms))
  pub plain : IsPlain (understood schema sql)

-- the parameters of a row, from which VALUES makes it without a key, and the row with each key
pub record Numbers {X : Type 0} (L : Layout X) (table : Table) (terms : List Term) (params : X → Row) (numbered : X → ℤ → X) : Type 0 where
  pub values : (x : X) → value_rows (stamped table (params x)) (length terms) (length terms / length terms) terms ≡ (Null ∷ drop 1 (L.to_row x)) ∷ []
  pub casts : (x : X) → cast_row table (Null ∷ drop 1 (L.to_row x)) ≡ Null ∷ drop 1 (L.to_row x)
  pub row : (x : X) (id : ℤ) → L.to_row (numbered x id) ≡ Int id ∷ drop 1 (L.to_row x)

-- a command that writes rows of a table, or makes a table or an index
abbrev pub writes_tables : Command → Bool
writes_tables (Insert at from) = true
writes_tables (InsertOr at way from clauses) = true
writes_tables (Update at q) = true
writes_tables (Delete at q) = true
writes_tables CreateTable = true
writes_tables (CreateIndex at) = true
writes_tables _ = false

-- foreign keys hold before and after each statement
abbrev pub steady : Mode
steady = record { keys = Enforced; in_doubt = false; may_wait = false }

-- what the text's command makes of trees whose tables are the schema's
abbrev pub Leads : Schema → List ℕ → Row → Option ℕ → List ℕ → Trees → Tally → Database → Type 0
Leads schema sql params limit text db tally after = Does limit steady params (record { schema = schema; trees = db }) text None (command_of (understood schema sql)) (Ok (tally, after))
