-- The last transfer of each object that had one, and how they lie in their table.
use Rattle.std.specs.Prelude.{◌&&◌, Bool, ℤ, [], ◌∷◌, refl}
use Rattle.std.specs.Ordering.{int_eq}
use Rattle.sqlite_value.specs.declared.value.Value.TheVariants.{Int}
use Rattle.sqlite_value.specs.Order.{Row}
use Rattle.sqlite_keyed.specs.Rules.{points_to}
use Rattle.sqlite_typed.specs.Columns.{or_null}
use Rattle.sqlrows.specs.Layouts.{Layout}
use Rattle.sqltables.specs.inner.Due.{falls_due, lies_within}
use Rattle.sqltables.specs.inner.Rows.{stored}
pub use Rattle.sqltables.specs.declared.transfer.TransferRow.{TransferRow}

-- as a query shows it, and as parameters
abbrev pub transfer_shown : TransferRow → Row
transfer_shown x = Int x.id ∷ or_null Int x.contact ∷ or_null Int x.domain ∷ Int x.requester ∷ Int x.losing ∷ Int x.requested ∷ Int x.ac_date ∷ or_null Int x.due ∷ Int x.state ∷ []

abbrev pub transfers : Layout TransferRow
transfers = record { tree = 13; key = λ x. x.id; to_row = λ x. stored (transfer_shown x); keyed = λ x. refl }

abbrev pub transfer_with_contact : ℤ → TransferRow → Bool
transfer_with_contact v x = points_to x.contact v

abbrev pub transfer_with_domain : ℤ → TransferRow → Bool
transfer_with_domain v x = points_to x.domain v

abbrev pub transfer_of_domains : ℤ → ℤ → TransferRow → Bool
transfer_of_domains first last x = lies_within first last x.domain

-- one that is pending, asked for by this account
abbrev pub transfer_pending_by : ℤ → TransferRow → Bool
transfer_pending_by requester x = int_eq x.requester requester && falls_due x.due

-- one that is pending, which this account loses
abbrev pub transfer_pending_from : ℤ → TransferRow → Bool
transfer_pending_from losing x = int_eq x.losing losing && falls_due x.due
