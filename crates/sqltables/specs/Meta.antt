-- What holds of the whole registry, in one row, and how they lie in their table.
use Rattle.std.specs.Prelude.{ℤ, Bool, [], ◌∷◌, refl}
use Rattle.std.specs.Ordering.{int_eq}
use Rattle.sqlite_value.specs.declared.value.Value.TheVariants.{Int, Text}
use Rattle.sqlite_value.specs.Order.{Row}
use Rattle.sqlrows.specs.Layouts.{Layout}
use Rattle.sqltables.specs.inner.Rows.{stored}
pub use Rattle.sqltables.specs.declared.meta.MetaRow.{MetaRow}

-- as a query shows it, and as parameters
abbrev pub meta_shown : MetaRow → Row
meta_shown x = Int x.id ∷ Int x.version ∷ Int x.clock ∷ Text x.zone ∷ Text x.reserved ∷ Int x.days_add ∷ Int x.days_auto_renew ∷ Int x.days_renew ∷ Int x.days_transfer ∷ Int x.days_redemption ∷ Int x.days_restore ∷ Int x.days_pending_delete ∷ Int x.days_answer ∷ Int x.days_lock ∷ Int x.price_create ∷ Int x.price_renew ∷ Int x.price_transfer ∷ []

abbrev pub metas : Layout MetaRow
metas = record { tree = 0; key = λ x. x.id; to_row = λ x. stored (meta_shown x); keyed = λ x. refl }

abbrev pub meta_with_id : ℤ → MetaRow → Bool
meta_with_id v x = int_eq x.id v
