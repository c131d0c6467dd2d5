-- Hosts, and how they lie in their table.
use Rattle.std.specs.Prelude.{◌&&◌, not, is_some, Bool, ℕ, ℤ, List, [], ◌∷◌, refl}
use Rattle.std.specs.Ordering.{int_eq}
use Rattle.sqlite_value.specs.declared.value.Value.TheVariants.{Int, Text}
use Rattle.sqlite_value.specs.Order.{Row}
use Rattle.sqlite_typed.specs.Columns.{or_null}
use Rattle.sqlite_typed.specs.Tests.{bytes_eq}
use Rattle.sqlrows.specs.Layouts.{Layout}
use Rattle.sqltables.specs.inner.Rows.{stored}
pub use Rattle.sqltables.specs.declared.host.HostRow.{HostRow}

-- as a query shows it, and as parameters
abbrev pub host_shown : HostRow → Row
host_shown x = Int x.id ∷ Text x.name ∷ Int x.creator ∷ Int x.serial ∷ Text x.above ∷ or_null Int x.external_sponsor ∷ or_null Int x.sponsor ∷ Int x.created ∷ or_null Int x.updated ∷ Text x.statuses ∷ []

abbrev pub hosts : Layout HostRow
hosts = record { tree = 7; key = λ x. x.id; to_row = λ x. stored (host_shown x); keyed = λ x. refl }

abbrev pub host_with_id : ℤ → HostRow → Bool
host_with_id v x = int_eq x.id v

abbrev pub host_with_name : List ℕ → HostRow → Bool
host_with_name v x = bytes_eq x.name v

abbrev pub host_with_above : List ℕ → HostRow → Bool
host_with_above v x = bytes_eq x.above v

-- it lies below this domain, and nobody sponsors it outside the zone
abbrev pub host_takes_sponsor : List ℕ → HostRow → Bool
host_takes_sponsor above x = host_with_above above x && not (is_some x.external_sponsor)
