-- Addresses of hosts, and how they lie in their table.
use Rattle.std.specs.Prelude.{Bool, ℤ, [], ◌∷◌, refl}
use Rattle.std.specs.Ordering.{int_eq}
use Rattle.sqlite_value.specs.declared.value.Value.TheVariants.{Int, Text}
use Rattle.sqlite_value.specs.Order.{Row}
use Rattle.sqlrows.specs.Layouts.{Layout}
use Rattle.sqltables.specs.inner.Rows.{stored}
pub use Rattle.sqltables.specs.declared.address.AddressRow.{AddressRow}

-- as a query shows it, and as parameters
abbrev pub address_shown : AddressRow → Row
address_shown x = Int x.id ∷ Int x.host ∷ Text x.address ∷ []

abbrev pub addresses : Layout AddressRow
addresses = record { tree = 9; key = λ x. x.id; to_row = λ x. stored (address_shown x); keyed = λ x. refl }

abbrev pub address_with_host : ℤ → AddressRow → Bool
address_with_host v x = int_eq x.host v
