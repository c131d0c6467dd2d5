-- Contacts, and how they lie in their table.
use Rattle.std.specs.Prelude.{◌&&◌, Bool, ℕ, ℤ, List, [], ◌∷◌, refl}
use Rattle.std.specs.declared.cmp.Ordering.{Ordering}
use Rattle.std.specs.Ordering.{int_cmp, int_eq, on}
use Rattle.sqlite_value.specs.declared.value.Value.TheVariants.{Int, Text}
use Rattle.sqlite_value.specs.Order.{Row}
use Rattle.sqlite_typed.specs.Columns.{or_null}
use Rattle.sqlite_typed.specs.Tests.{bytes_eq, nulls_first}
use Rattle.sqlite_keyed.specs.Lists.{sort_by}
use Rattle.sqlrows.specs.Layouts.{Layout}
use Rattle.sqlrows.specs.inner.Layouts.{by_then_key}
use Rattle.sqltables.specs.inner.Due.{is_due_by}
use Rattle.sqltables.specs.inner.Rows.{stored}
pub use Rattle.sqltables.specs.declared.contact.ContactRow.{ContactRow}
pub use Rattle.sqltables.specs.declared.contact.PostalRow.{PostalRow}

-- as a query shows it, and as parameters
abbrev pub contact_shown : ContactRow → Row
contact_shown x = Int x.id ∷ Text x.name ∷ Int x.creator ∷ Int x.serial ∷ Int x.sponsor ∷ Int x.created ∷ or_null Int x.transferred ∷ or_null Int x.updated ∷ Text x.statuses ∷ Text x.secret ∷ Text x.postal.name ∷ or_null Text x.postal.org ∷ Text x.postal.street ∷ Text x.postal.city ∷ or_null Text x.postal.state ∷ or_null Text x.postal.postal_code ∷ Text x.postal.country ∷ or_null Text x.voice ∷ or_null Int x.due ∷ Text x.mail ∷ []

abbrev pub contacts : Layout ContactRow
contacts = record { tree = 3; key = λ x. x.id; to_row = λ x. stored (contact_shown x); keyed = λ x. refl }

abbrev pub contact_with_id : ℤ → ContactRow → Bool
contact_with_id v x = int_eq x.id v

abbrev pub contact_with_name : List ℕ → ContactRow → Bool
contact_with_name v x = bytes_eq x.name v

abbrev pub contact_within_due : ℤ → ContactRow → Bool
contact_within_due due x = is_due_by due x.due

abbrev pub contact_of_sponsor_within : ℤ → ℤ → ContactRow → Bool
contact_of_sponsor_within sponsor due x = int_eq x.sponsor sponsor && is_due_by due x.due

abbrev pub by_due : List (ContactRow → ContactRow → Ordering)
by_due = on (λ (x : ContactRow). x.due) (nulls_first int_cmp) ∷ []

-- in the order in which they are due
abbrev pub contacts_by_due : List ContactRow → List ContactRow
contacts_by_due = sort_by (by_then_key contacts by_due)
