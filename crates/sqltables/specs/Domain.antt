-- Domains, and how they lie in their table.
use Rattle.std.specs.Prelude.{◌&&◌, Bool, int_le, int_lt, ℕ, ℤ, List, [], ◌∷◌, refl}
use Rattle.std.specs.declared.cmp.Ordering.{Ordering}
use Rattle.std.specs.Ordering.{int_cmp, int_eq, on}
use Rattle.sqlite_value.specs.declared.value.Value.TheVariants.{Int, Text}
use Rattle.sqlite_value.specs.Order.{Row}
use Rattle.sqlite_typed.specs.Columns.{or_null}
use Rattle.sqlite_typed.specs.Tests.{bytes_eq}
use Rattle.sqlite_keyed.specs.Lists.{sort_by}
use Rattle.sqlrows.specs.Layouts.{Layout}
use Rattle.sqlrows.specs.inner.Layouts.{by_then_key}
use Rattle.sqltables.specs.inner.Rows.{stored}
pub use Rattle.sqltables.specs.declared.domain.DomainRow.{DomainRow}

-- as a query shows it, and as parameters
abbrev pub domain_shown : DomainRow → Row
domain_shown x = Int x.id ∷ Text x.name ∷ Int x.creator ∷ Int x.serial ∷ Int x.sponsor ∷ Int x.created ∷ Int x.years ∷ or_null Int x.transferred ∷ or_null Int x.updated ∷ Text x.statuses ∷ Text x.secret ∷ Int x.registrant ∷ or_null Int x.deleted ∷ or_null Int x.restore_requested ∷ Int x.due ∷ []

abbrev pub domains : Layout DomainRow
domains = record { tree = 5; key = λ x. x.id; to_row = λ x. stored (domain_shown x); keyed = λ x. refl }

abbrev pub domain_with_id : ℤ → DomainRow → Bool
domain_with_id v x = int_eq x.id v

abbrev pub domain_after_id : ℤ → DomainRow → Bool
domain_after_id v x = int_lt v x.id

abbrev pub domain_with_name : List ℕ → DomainRow → Bool
domain_with_name v x = bytes_eq x.name v

abbrev pub domain_with_registrant : ℤ → DomainRow → Bool
domain_with_registrant v x = int_eq x.registrant v

abbrev pub domain_within_due : ℤ → DomainRow → Bool
domain_within_due v x = int_le x.due v

abbrev pub domain_of_sponsor_within : ℤ → ℤ → DomainRow → Bool
domain_of_sponsor_within sponsor due x = int_eq x.sponsor sponsor && int_le x.due due

abbrev pub domain_of_registrant_within : ℤ → ℤ → DomainRow → Bool
domain_of_registrant_within registrant due x = int_eq x.registrant registrant && int_le x.due due

abbrev pub domain_with_roid : ℤ → ℤ → DomainRow → Bool
domain_with_roid creator serial x = int_eq x.creator creator && int_eq x.serial serial

abbrev pub by_due : List (DomainRow → DomainRow → Ordering)
by_due = on (λ (x : DomainRow). x.due) int_cmp ∷ []

-- in the order in which they are due
abbrev pub domains_by_due : List DomainRow → List DomainRow
domains_by_due = sort_by (by_then_key domains by_due)
