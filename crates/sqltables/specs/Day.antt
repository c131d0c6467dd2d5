-- Lengths of periods that are in force from a moment on, and how they lie in their table.
use Rattle.std.specs.Prelude.{[], ◌∷◌, refl}
use Rattle.sqlite_value.specs.declared.value.Value.TheVariants.{Int}
use Rattle.sqlite_value.specs.Order.{Row}
use Rattle.sqlrows.specs.Layouts.{Layout}
use Rattle.sqltables.specs.inner.Rows.{stored}
pub use Rattle.sqltables.specs.declared.day.DayRow.{DayRow}

-- as a query shows it, and as parameters
abbrev pub day_shown : DayRow → Row
day_shown x = Int x.id ∷ Int x.starts ∷ Int x.days_add ∷ Int x.days_auto_renew ∷ Int x.days_renew ∷ Int x.days_transfer ∷ Int x.days_redemption ∷ Int x.days_restore ∷ Int x.days_pending_delete ∷ Int x.days_answer ∷ Int x.days_lock ∷ []

abbrev pub days : Layout DayRow
days = record { tree = 34; key = λ x. x.id; to_row = λ x. stored (day_shown x); keyed = λ x. refl }
