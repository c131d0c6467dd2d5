-- What the texts make of a database that was never used, and what its tables hold then.
use Rattle.std.proofs.Common.{◌++◌, ℕ, List, codes, map, refl, inl, inr, [], ◌∷◌, Result, Ok, Err, OnOk}
use Rattle.std.specs.Bool.{⊤}
use Rattle.sqltables.proofs.Words.{Database, DefinesAll, Error, filled, first_line, first_registry, IsBlank, IsContent, IsIndex}
use Rattle.sqltables.proofs.Words.{line, no_content, no_schema, nullable, registry}
use Rattle.sqlite.specs.{Listing.understood, Kind.TheVariants.Integer, Schema.Schema}
use Rattle.sqlite_tied.specs.Compute.{everything}
use Rattle.sqlite_schema.specs.declared.schema.Column.{Column}
use Rattle.sqlite_catalog.specs.Change.{created, indexed}
use Rattle.sqlrows.specs.inner.Definitions.{IsTable}
use Rattle.sqltables.specs.Tables.{before_lines, created_all, days, Indexing, indexed_by, indexings, line_with, made_with, Making, makings, texts_with}
use Rattle.sqltables.specs.declared.schema.TheConstants.{LINE, DAYS, FIRST_LINE}

-- each text makes its table, and each its index
abbrev AreTables : Schema → List Making → Type 0
AreTables schema [] = ⊤
AreTables schema (it ∷ more) = IsTable schema it.text it.table × AreTables (created schema it.table) more

abbrev AreIndexings : Schema → List Indexing → Type 0
AreIndexings schema [] = ⊤
AreIndexings schema (it ∷ more) = IsIndex schema it.text it.at it.table it.index × AreIndexings (indexed schema it.table it.index) more

module _ (to : Schema) (texts : List (List ℕ)) where
  tables_define : (schema : Schema) (more : List Making) → AreTables schema more → DefinesAll (created_all schema more) texts to → DefinesAll schema (map (λ it. it.text) more ++ texts) to
  tables_define schema [] are rest = rest
  tables_define schema (it ∷ more) are rest = (created schema it.table, inl (it.table, are.0, refl), tables_define (created schema it.table) more are.1 rest)

  indexings_define : (schema : Schema) (more : List Indexing) → AreIndexings schema more → DefinesAll (indexed_by schema more) texts to → DefinesAll schema (map (λ it. it.text) more ++ texts) to
  indexings_define schema [] are rest = rest
  indexings_define schema (it ∷ more) are rest =
      (indexed schema it.table it.index, inr (it.at, it.table, it.index, are.0, refl), indexings_define (indexed schema it.table it.index) more are.1 rest)

infixr 2 ◌&◌
◌&◌ : {A B : Type 0} → A → B → A × B
a & b = (a, b)

-- a table of the lines, whatever columns it has behind the first seven, and all that is made around it
makings_are : (text : List ℕ) (more : List Column) → IsTable (created_all no_schema before_lines) text (line_with more) → AreTables no_schema (makings text (line_with more))
unfolding understood everything
makings_are text more is =
    record { command = refl; as_written = refl; defined = refl; plain = (refl, refl); uncounted = refl }
    & record { command = refl; as_written = refl; defined = refl; plain = (refl, refl); uncounted = refl }
    & record { command = refl; as_written = refl; defined = refl; plain = (refl, refl); uncounted = refl }
    & record { command = refl; as_written = refl; defined = refl; plain = (refl, refl); uncounted = refl }
    & record { command = refl; as_written = refl; defined = refl; plain = (refl, refl); uncounted = refl }
    & record { command = refl; as_written = refl; defined = refl; plain = (refl, refl); uncounted = refl }
    & record { command = refl; as_written = refl; defined = refl; plain = (refl, refl); uncounted = refl }
    & is
    & record { command = refl; as_written = refl; defined = refl; plain = (refl, refl); uncounted = refl }
    & record { command = refl; as_written = refl; defined = refl; plain = (refl, refl); uncounted = refl }
    & tt

indexings_are : (text : List ℕ) (more : List Column) → AreIndexings (created_all no_schema (makings text (line_with more))) (indexings (line_with more))
unfolding understood everything
indexings_are text more =
    record { command = refl; as_written = refl; place = refl; defined = refl; plain = (refl, refl) }
    & record { command = refl; as_written = refl; place = refl; defined = refl; plain = (refl, refl) }
    & record { command = refl; as_written = refl; place = refl; defined = refl; plain = (refl, refl) }
    & record { command = refl; as_written = refl; place = refl; defined = refl; plain = (refl, refl) }
    & record { command = refl; as_written = refl; place = refl; defined = refl; plain = (refl, refl) }
    & record { command = refl; as_written = refl; place = refl; defined = refl; plain = (refl, refl) }
    & record { command = refl; as_written = refl; place = refl; defined = refl; plain = (refl, refl) }
    & record { command = refl; as_written = refl; place = refl; defined = refl; plain = (refl, refl) }
    & record { command = refl; as_written = refl; place = refl; defined = refl; plain = (refl, refl) }
    & record { command = refl; as_written = refl; place = refl; defined = refl; plain = (refl, refl) }
    & record { command = refl; as_written = refl; place = refl; defined = refl; plain = (refl, refl) }
    & record { command = refl; as_written = refl; place = refl; defined = refl; plain = (refl, refl) }
    & record { command = refl; as_written = refl; place = refl; defined = refl; plain = (refl, refl) }
    & record { command = refl; as_written = refl; place = refl; defined = refl; plain = (refl, refl) }
    & record { command = refl; as_written = refl; place = refl; defined = refl; plain = (refl, refl) }
    & record { command = refl; as_written = refl; place = refl; defined = refl; plain = (refl, refl) }
    & record { command = refl; as_written = refl; place = refl; defined = refl; plain = (refl, refl) }
    & record { command = refl; as_written = refl; place = refl; defined = refl; plain = (refl, refl) }
    & record { command = refl; as_written = refl; place = refl; defined = refl; plain = (refl, refl) }
    & record { command = refl; as_written = refl; place = refl; defined = refl; plain = (refl, refl) }
    & tt

all_define : (text : List ℕ) (more : List Column) (texts : List (List ℕ)) (to : Schema) → IsTable (created_all no_schema before_lines) text (line_with more) → DefinesAll (made_with text (line_with more)) texts to
    → DefinesAll no_schema (map (λ it. it.text) (makings text (line_with more)) ++ (map (λ it. it.text) (indexings (line_with more)) ++ texts)) to
all_define text more texts to is rest =
    tables_define to (map (λ it. it.text) (indexings (line_with more)) ++ texts) no_schema (makings text (line_with more)) (makings_are text more is)
    (indexings_define to texts (created_all no_schema (makings text (line_with more))) (indexings (line_with more)) (indexings_are text more) rest)

line_is : IsTable (created_all no_schema before_lines) LINE.now line
unfolding understood everything
line_is = record { command = refl; as_written = refl; defined = refl; plain = (refl, refl); uncounted = refl }

first_line_is : IsTable (created_all no_schema before_lines) FIRST_LINE.now first_line
unfolding understood everything
first_line_is = record { command = refl; as_written = refl; defined = refl; plain = (refl, refl); uncounted = refl }

days_is : IsTable (made_with LINE.now line) DAYS.now days
unfolding understood everything
days_is = record { command = refl; as_written = refl; defined = refl; plain = (refl, refl); uncounted = refl }

pub creation_defines : DefinesAll no_schema (texts_with LINE.now line ++ DAYS.now ∷ []) registry
creation_defines = all_define LINE.now (nullable (codes "ends") Integer ∷ nullable (codes "refunded") Integer ∷ filled (codes "recorded") Integer ∷ []) (DAYS.now ∷ []) registry line_is
    (registry, inl (days, days_is, refl), refl)

pub first_creation_defines : DefinesAll no_schema (texts_with FIRST_LINE.now first_line) first_registry
first_creation_defines = all_define FIRST_LINE.now (nullable (codes "refunded") Integer ∷ filled (codes "recorded") Integer ∷ []) [] first_registry first_line_is refl

pub blank_holds_nothing : (db : Database) → IsBlank registry db → IsContent no_content db
blank_holds_nothing db blank = record {
  schema = blank.is;
  metas = record { rows = blank.empty.0; keyed = tt };
  accounts = record { rows = blank.empty.1.0; keyed = tt };
  contacts = record { rows = blank.empty.1.1.0; keyed = tt };
  domains = record { rows = blank.empty.1.1.1.0; keyed = tt };
  hosts = record { rows = blank.empty.1.1.1.1.0; keyed = tt };
  addresses = record { rows = blank.empty.1.1.1.1.1.0; keyed = tt };
  links = record { rows = blank.empty.1.1.1.1.1.1.0; keyed = tt };
  lines = record { rows = blank.empty.1.1.1.1.1.1.1.0; keyed = tt };
  messages = record { rows = blank.empty.1.1.1.1.1.1.1.1.0; keyed = tt };
  transfers = record { rows = blank.empty.1.1.1.1.1.1.1.1.1.0; keyed = tt };
  days = record { rows = blank.empty.1.1.1.1.1.1.1.1.1.1.0; keyed = tt };
}

pub made_empty : (S : Type 0) (r : Result (Unit {0}) Error) (db : Database) → OnOk r (IsBlank registry db × S) → OnOk r (IsContent no_content db)
made_empty S (Ok x) db made = blank_holds_nothing db made.0
made_empty S (Err e) db made = tt
