-- Texts that make tables and indexes, and what they leave.
use Rattle.std.specs.Prelude.{◌≡◌, ◌⊎◌, ℕ, false, List, [], ◌∷◌, slice_get, slice_range, Some, Ok, Err, Result, IsTrue, OnOk, OnErr}
use Rattle.std.specs.List.{AllByRecursion}
use Rattle.sqlite_schema.specs.declared.schema.Table.{Table}
use Rattle.sqlite_schema.specs.declared.schema.Index.{Index}
use Rattle.sqlite_schema.specs.declared.schema.Schema.{Schema}
use Rattle.sqlite_schema.specs.declared.command.Command.TheVariants.{CreateTable, CreateIndex}
use Rattle.sqlite_catalog.specs.Change.{created, indexed}
use Rattle.sqlite_resolve.specs.declared.compiled.Compiled.{Compiled}
use Rattle.sqlite_resolve.specs.declared.error.CompileError.{CompileError}
use Rattle.sqlite_resolve.specs.Compile.{table_defined_by, index_defined_by}
use Rattle.sqlite.specs.declared.error.Error.{Error}
use Rattle.sqlite.specs.Does.{lacks_sequence}
use Rattle.sqlite.specs.Effect.{Database}
use Rattle.sqlite.specs.Given.{IsPlain}
use Rattle.sqlite.specs.Listing.{understood}
use Rattle.sqlite.specs.State.{State}
use Rattle.sqlrows.specs.inner.Layouts.{command_of}
use Rattle.sqlrows.specs.inner.Calls.{StaysOpen, LeavesOnly}

-- the statement alone, as the schema keeps it
abbrev pub statement_of : List ℕ → Result Compiled CompileError → List ℕ
statement_of sql (Ok c) = slice_range sql c.start c.end
statement_of sql (Err e) = []

-- the text is one CREATE TABLE, of this table
pub record IsTable (schema : Schema) (text : List ℕ) (table : Table) : Type 0 where
  pub command : command_of (understood schema text) ≡ CreateTable
  pub as_written : statement_of text (understood schema text) ≡ text
  pub defined : table_defined_by text ≡ Ok table
  pub plain : IsPlain (understood schema text)
  pub uncounted : lacks_sequence (created schema table) ≡ false

-- the text is one CREATE INDEX, of this index on the table at the place
pub record IsIndex (schema : Schema) (text : List ℕ) (at : ℕ) (table : Table) (index : Index) : Type 0 where
  pub command : command_of (understood schema text) ≡ CreateIndex at
  pub as_written : statement_of text (understood schema text) ≡ text
  pub place : slice_get schema.tables at ≡ Some table
  pub defined : index_defined_by table text ≡ Ok index
  pub plain : IsPlain (understood schema text)

-- what the text makes of a schema
abbrev pub Defines : Schema → List ℕ → Schema → Type 0
Defines from text to =
    ((table : Table) × IsTable from text table × (to ≡ created from table))
    ⊎ ((at : ℕ) × (table : Table) × (index : Index) × IsIndex from text at table index × (to ≡ indexed from table index))

-- what texts make of it, one after another
abbrev pub DefinesAll : Schema → List (List ℕ) → Schema → Type 0
DefinesAll from [] to = from ≡ to
DefinesAll from (text ∷ texts) to =
    (next : Schema) × Defines from text next × DefinesAll next texts to

-- the tables of the schema, with no row
pub record IsBlank (schema : Schema) (db : Database) : Type 0 where
  pub is : db.schema ≡ schema
  pub empty : AllByRecursion (λ t. db.trees t.tree ≡ []) schema.tables

-- the transaction is undone
pub record IsUndone (old new : State) : Type 0 where
  pub undone : IsTrue new.is_open → (new.now ≡ old.committed) × (new.committed ≡ old.committed)
  pub autocommit : new.in_transaction ≡ false

-- the tables of the schema are there, with no row, and the transaction goes on; after an error it goes on with some of them, or is undone
pub record Makes (schema : Schema) (old new : State) (result : Result (Unit {0}) Error) : Type 0 where
  pub made : OnOk result (IsBlank schema new.now × StaysOpen old new)
  pub err : OnErr result (StaysOpen old new ⊎ IsUndone old new)
  pub crash : LeavesOnly old new (λ _. ⊥)
