-- What domains name: contacts in a role, and hosts, and how they lie in their table.
use Rattle.std.specs.Prelude.{◌&&◌, Bool, int_le, ℤ, [], ◌∷◌, refl}
use Rattle.std.specs.Ordering.{int_eq}
use Rattle.sqlite_value.specs.declared.value.Value.TheVariants.{Int}
use Rattle.sqlite_value.specs.Order.{Row}
use Rattle.sqlite_keyed.specs.Rules.{points_to}
use Rattle.sqlite_typed.specs.Columns.{or_null}
use Rattle.sqlrows.specs.Layouts.{Layout}
use Rattle.sqltables.specs.inner.Rows.{stored}
pub use Rattle.sqltables.specs.declared.link.LinkRow.{LinkRow}

-- as a query shows it, and as parameters
abbrev pub link_shown : LinkRow → Row
link_shown x = Int x.id ∷ Int x.domain ∷ or_null Int x.contact ∷ or_null Int x.host ∷ Int x.role ∷ Int x.due ∷ []

abbrev pub links : Layout LinkRow
links = record { tree = 10; key = λ x. x.id; to_row = λ x. stored (link_shown x); keyed = λ x. refl }

abbrev pub link_with_domain : ℤ → LinkRow → Bool
link_with_domain v x = int_eq x.domain v

abbrev pub link_of_domains : ℤ → ℤ → LinkRow → Bool
link_of_domains first last x = int_le first x.domain && int_le x.domain last

abbrev pub link_with_contact : ℤ → LinkRow → Bool
link_with_contact v x = points_to x.contact v

abbrev pub link_with_host : ℤ → LinkRow → Bool
link_with_host v x = points_to x.host v

abbrev pub link_of_contact_within : ℤ → ℤ → LinkRow → Bool
link_of_contact_within contact due x = points_to x.contact contact && int_le x.due due

abbrev pub link_of_host_within : ℤ → ℤ → LinkRow → Bool
link_of_host_within host due x = points_to x.host host && int_le x.due due
