-- Columns and tables, as a text declares them.
use Rattle.std.specs.Prelude.{true, false, [], ◌∷◌, Some, List, ℕ, Bool, map, codes}
use Rattle.sqlite.specs.Collation.TheVariants.{Binary}
use Rattle.sqlite.specs.declared.types.Value.TheVariants.{Null}
use Rattle.sqlite.specs.Table.{Table}
use Rattle.sqlite.specs.Schema.{Schema}
use Rattle.sqlite.specs.Kind.{Kind}
use Rattle.sqlite.specs.Kind.TheVariants.{Integer}
use Rattle.sqlite_schema.specs.declared.schema.Column.{Column}
use Rattle.sqlite_schema.specs.declared.schema.Index.{Index}
use Rattle.sqlite_schema.specs.declared.schema.Reference.{Reference}
use Rattle.sqlite_schema.specs.declared.schema.Action.TheVariants.{NoAction}
use Rattle.sqlite_value.specs.Keys.{plain}

-- a column of a STRICT table, that has a value in each row or may be NULL
abbrev pub column : Bool → List ℕ → Kind → Column
column filled name kind = record { name = name; kind = kind; is_strict = true; not_null = filled; default = Null; collation = Binary }

-- NOT NULL
abbrev pub filled : List ℕ → Kind → Column
filled = column true

-- that may be NULL
abbrev pub nullable : List ℕ → Kind → Column
nullable = column false

-- id INTEGER PRIMARY KEY
abbrev pub id_column : Column
id_column = column false (codes "id") Integer

-- a reference of the column at this place to the id of another table; nothing follows from a deletion
abbrev pub reference_to : List ℕ → ℕ → Reference
reference_to parent place = record { columns = place ∷ []; parent = parent; parent_columns = codes "id" ∷ []; on_delete = NoAction; on_update = NoAction; is_deferred = false }

-- a STRICT table whose first column is its INTEGER PRIMARY KEY, id. Places of columns count from 0; the
-- row has its key before them.
abbrev pub keyed_table : List ℕ → List Column → List (List ℕ) → List Reference → Table
keyed_table name columns uniques references = record {
  name = name;
  tree = 0;
  columns = id_column ∷ columns;
  key = Some 0;
  primary = 0 ∷ [];
  uniques = uniques;
  orders = map (λ _. plain) uniques;
  checks = [];
  references = references;
  computed = [];
  stamps = record { places = []; terms = []; formats = [] };
  is_counted = false;
}

-- a database that was never used
abbrev pub no_schema : Schema
no_schema = record { tables = []; indexes = []; views = [] }

-- an index that isn't UNIQUE, on columns of the table at the tree
abbrev pub index_on : ℕ → List ℕ → List ℕ → Index
index_on table name places = record { name = name; tree = 0; table = table; columns = places; order = plain; is_unique = false }
