-- Tables that are declared plainly: no default but NULL, no CHECK, nothing that is computed, and no view.
use Rattle.std.specs.Prelude.{◌≡◌, []}
use Rattle.std.specs.List.{AllByRecursion}
use Rattle.sqlite_value.specs.declared.value.Value.TheVariants.{Null}
use Rattle.sqlite_schema.specs.declared.schema.Column.{Column}
use Rattle.sqlite_schema.specs.declared.schema.Table.{Table}
use Rattle.sqlite_schema.specs.declared.schema.Schema.{Schema}

abbrev pub IsPlainColumn : Column → Type 0
IsPlainColumn column = column.default ≡ Null

-- no CHECK, and no default that reads the time
abbrev pub ComputesNothing : Table → Type 0
ComputesNothing table =
    (table.checks ≡ []) × (table.stamps ≡ record { places = []; terms = []; formats = [] })

abbrev pub IsPlainTable : Table → Type 0
IsPlainTable table = ComputesNothing table × AllByRecursion IsPlainColumn table.columns

abbrev pub IsPlainSchema : Schema → Type 0
IsPlainSchema schema = (schema.views ≡ []) × AllByRecursion IsPlainTable schema.tables
