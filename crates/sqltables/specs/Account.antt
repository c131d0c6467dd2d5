-- Registrars' accounts, and how they lie in their table.
use Rattle.std.specs.Prelude.{Bool, ℤ, [], ◌∷◌, refl}
use Rattle.std.specs.Ordering.{int_eq}
use Rattle.sqlite_value.specs.declared.value.Value.TheVariants.{Blob, Int, Text}
use Rattle.sqlite_value.specs.Order.{Row}
use Rattle.sqlrows.specs.Layouts.{Layout}
use Rattle.sqltables.specs.inner.Rows.{stored}
pub use Rattle.sqltables.specs.declared.account.AccountRow.{AccountRow}

-- as a query shows it, and as parameters
abbrev pub account_shown : AccountRow → Row
account_shown x = Int x.id ∷ Text x.ident ∷ Int x.commands ∷ Int x.messages ∷ Int x.serial ∷ Int x.waiting ∷ Blob x.balance ∷ Int x.held ∷ []

abbrev pub accounts : Layout AccountRow
accounts = record { tree = 1; key = λ x. x.id; to_row = λ x. stored (account_shown x); keyed = λ x. refl }

abbrev pub account_with_id : ℤ → AccountRow → Bool
account_with_id v x = int_eq x.id v
