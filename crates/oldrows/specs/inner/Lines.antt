-- Lines of accounts as they lie in their table, without the end of their grace.
use Rattle.std.specs.Prelude.{[], ◌∷◌, None, refl}
use Rattle.sqlite_value.specs.declared.value.Value.TheVariants.{Int, Null}
use Rattle.sqlite_value.specs.Order.{Row, column}
use Rattle.sqlite_typed.specs.Columns.{int_of, or_null, unless_null}
use Rattle.sqlrows.specs.Layouts.{Layout}
use Rattle.sqltables.specs.declared.line.LineRow.{LineRow}

abbrev pub without_end : LineRow → LineRow
without_end x = record x { grace = record x.grace { ends = None } }

-- as it is stored: its key, NULL in the key's column, and then the others
abbrev pub first_line_row : LineRow → Row
first_line_row x = Int x.id ∷ Null ∷ Int x.account ∷ Int x.kind ∷ or_null Int x.creator ∷ or_null Int x.serial ∷ Int x.years ∷ Int x.cents ∷ or_null Int x.grace.started ∷ or_null Int x.refunded ∷ Int x.recorded ∷ []

abbrev pub first_line_in : Row → LineRow
first_line_in r = record { id = int_of (column r 0); account = int_of (column r 2); kind = int_of (column r 3); creator = unless_null int_of (column r 4); serial = unless_null int_of (column r 5); years = int_of (column r 6); cents = int_of (column r 7); refunded = unless_null int_of (column r 9); recorded = int_of (column r 10); grace = record { started = unless_null int_of (column r 8); ends = None } }

abbrev pub first_lines : Layout LineRow
first_lines = record { tree = 11; key = λ x. x.id; to_row = first_line_row; keyed = λ x. refl }
