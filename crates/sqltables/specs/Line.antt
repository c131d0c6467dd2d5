-- Lines of accounts, and how they lie in their table.
use Rattle.std.specs.Prelude.{◌&&◌, Bool, ℤ, [], ◌∷◌, refl}
use Rattle.std.specs.Ordering.{int_eq}
use Rattle.sqlite_value.specs.declared.value.Value.TheVariants.{Int}
use Rattle.sqlite_value.specs.Order.{Row}
use Rattle.sqlite_keyed.specs.Rules.{points_to}
use Rattle.sqlite_typed.specs.Columns.{or_null}
use Rattle.sqlrows.specs.Layouts.{Layout}
use Rattle.sqltables.specs.inner.Rows.{stored}
pub use Rattle.sqltables.specs.declared.line.LineRow.{LineRow}
pub use Rattle.sqltables.specs.declared.line.GraceRow.{GraceRow}

-- as a query shows it, and as parameters
abbrev pub line_shown : LineRow → Row
line_shown x = Int x.id ∷ Int x.account ∷ Int x.kind ∷ or_null Int x.creator ∷ or_null Int x.serial ∷ Int x.years ∷ Int x.cents ∷ or_null Int x.grace.started ∷ or_null Int x.grace.ends ∷ or_null Int x.refunded ∷ Int x.recorded ∷ []

abbrev pub lines : Layout LineRow
lines = record { tree = 11; key = λ x. x.id; to_row = λ x. stored (line_shown x); keyed = λ x. refl }

abbrev pub line_with_account : ℤ → LineRow → Bool
line_with_account v x = int_eq x.account v

abbrev pub line_with_id : ℤ → LineRow → Bool
line_with_id v x = int_eq x.id v

abbrev pub line_of_object : ℤ → ℤ → ℤ → LineRow → Bool
line_of_object account creator serial x =
    int_eq x.account account && (points_to x.creator creator && points_to x.serial serial)
