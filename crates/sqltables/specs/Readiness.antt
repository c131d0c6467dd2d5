-- What a database is to this program.
use Rattle.std.specs.Prelude.{◌≡◌, ◌≢◌, Bool, true, false, List, [], ◌∷◌}
use Rattle.std.specs.Ordering.{int_eq}
use Rattle.sqlite_catalog.specs.Listing.{IsSound}
use Rattle.sqlite_schema.specs.declared.schema.Schema.{Schema}
use Rattle.sqlite_trees.specs.Tree.{Trees}
use Rattle.sqlrows.specs.Columns.{no_schema}
use Rattle.states.specs.declared.readiness.Ready.{Ready}
use Rattle.states.specs.declared.readiness.Ready.TheVariants as readiness
use Rattle.sqltables.specs.Decoding.{contents}
use Rattle.sqltables.specs.declared.form.Form.{Form}
use Rattle.sqltables.specs.declared.form.Form.TheVariants.{Unused, Making, Made, Other}
use Rattle.sqltables.specs.Meta.{MetaRow}
use Rattle.sqltables.specs.Tables.{registry, schema_number}

-- the table `meta` has one row, and in it the number of this schema
abbrev pub is_numbered : List MetaRow → Bool
is_numbered [] = false
is_numbered (meta ∷ []) = int_eq meta.version schema_number
is_numbered (meta ∷ other ∷ more) = false

-- the table `meta` has no row yet, or one with that number
abbrev pub may_be_numbered : List MetaRow → Bool
may_be_numbered [] = true
may_be_numbered (meta ∷ more) = is_numbered (meta ∷ more)

-- nothing was ever made in it; or it has the tables of a registry, all of them and no other; or others
abbrev pub IsFormOf : Schema → Form → Type 0
IsFormOf schema Unused = schema ≡ no_schema
IsFormOf schema Making = ⊥
IsFormOf schema Made = schema ≡ registry
IsFormOf schema Other = (schema ≢ no_schema) × (schema ≢ registry)

-- What a database is, exactly: a registry of this program, which has its eleven tables, no other, and the number of
-- this schema; or one in which no table was ever made; or, of all others, something else's.
abbrev pub IsKnownAs : Ready → Trees → Type 0
IsKnownAs readiness.Used trees =
    IsSound registry trees × (is_numbered (contents trees).metas ≡ true)
IsKnownAs readiness.Empty trees = IsSound no_schema trees
IsKnownAs readiness.Other trees =
    (IsSound no_schema trees → ⊥)
    × (IsSound registry trees → is_numbered (contents trees).metas ≡ false)
