-- What calls make of the rows.
use Rattle.std.specs.Prelude.{◌≡◌, ℕ, ℤ, pos, ◌+ℤ◌, false, Option, Some}
use Rattle.std.specs.FinMap.{FinMap, get, insert}
use Rattle.std.specs.Option.{option_map_or, unwrap_or}
use Rattle.std.specs.Ordering.{int_eq, nat_cmp}
use Rattle.accounts.specs.declared.account.Account.{Account}
use Rattle.accounts.specs.declared.line.Line.{Line}
use Rattle.accounts.specs.declared.counters.Counters.{Counters}
use Rattle.accounts.specs.Account.{empty_account}
use Rattle.sqlcolumns.specs.Lines.{line_of_columns}
use Rattle.sqlcolumns.specs.Numbers.{counter_column, counter_in, registrar_column}
use Rattle.sqltables.specs.declared.account.AccountRow.{AccountRow}
use Rattle.sqltables.specs.declared.line.LineRow.{LineRow}
use Rattle.sqltables.specs.inner.Balance.{balance_bytes}
use Rattle.sqltables.specs.Content.{Content}
use Rattle.sqlaccounts.specs.Accounts.{accounts_of, balance_in, ident_and_held_of, place_ident, row_of, sums_are_right}

-- the accounts, where a registrar's is changed; what was never opened is opened
abbrev pub with_account_changed : (Account → Account) → FinMap nat_cmp Account → ℕ → FinMap nat_cmp Account
with_account_changed f accounts r = insert accounts r (f (unwrap_or (get accounts r) empty_account))

-- no row of another table, but of lines and messages, is touched
pub record AreOthersKept (old new : Content) : Type 0 where
  pub metas : new.metas ≡ old.metas
  pub days : new.days ≡ old.days
  pub contacts : new.contacts ≡ old.contacts
  pub domains : new.domains ≡ old.domains
  pub hosts : new.hosts ≡ old.hosts
  pub addresses : new.addresses ≡ old.addresses
  pub links : new.links ≡ old.links
  pub transfers : new.transfers ≡ old.transfers

-- A registrar's account, which was there, is what f makes of it. Sums that were right are right, and
-- no others.
pub record IsChange (r : ℕ) (f : Account → Account) (old new : Content) : Type 0 where
  pub there : (a : Account) × (get (accounts_of old) r ≡ Some a)
  pub accounts : accounts_of new ≡ with_account_changed f (accounts_of old) r
  pub sums : sums_are_right new ≡ sums_are_right old
  pub idents_and_held : (id : ℤ) → ident_and_held_of new id ≡ ident_and_held_of old id
  pub others : AreOthersKept old new

-- the row of an account that was just opened
abbrev pub opened_row : ℕ → AccountRow
opened_row r = record { id = registrar_column r; ident = place_ident r; commands = pos 0; messages = pos 0; serial = pos 0; waiting = pos 0; balance = balance_bytes (pos 0); held = pos 0 }

-- A registrar has an account. A row that was there stays as it is, and where its own wasn't there is
-- one of an account that was just opened.
pub record IsOpened (r : ℕ) (old new : Content) : Type 0 where
  pub accounts : accounts_of new ≡ with_account_changed (λ a. a) (accounts_of old) r
  pub sums : sums_are_right new ≡ sums_are_right old
  pub own : row_of new (registrar_column r) ≡ Some (unwrap_or (row_of old (registrar_column r)) (opened_row r))
  pub rows : (id : ℤ) → int_eq (registrar_column r) id ≡ false → row_of new id ≡ row_of old id
  pub others : AreOthersKept old new
  pub lines : new.lines ≡ old.lines
  pub messages : new.messages ≡ old.messages

-- ---- one row of account put for another

-- the balance alone is another, by so many cents
pub record IsBalanceChanged (cents : ℤ) (row changed : AccountRow) : Type 0 where
  pub rest : changed ≡ record row { balance = changed.balance }
  pub sum : balance_in changed.balance ≡ balance_in row.balance +ℤ cents

abbrev pub counted_in : AccountRow → Counters
counted_in row = record { commands = counter_in row.commands; messages = counter_in row.messages; serial = counter_in row.serial }

-- what a row counts: 0 where there is none
abbrev pub counters_in : Option AccountRow → Counters
counters_in row = option_map_or counted_in row (record { commands = 0; messages = 0; serial = 0 })

-- the counters alone are others
pub record HasNewCounters (x : Counters) (row changed : AccountRow) : Type 0 where
  pub rest : changed ≡ record row { commands = counter_column x.commands; messages = counter_column x.messages; serial = counter_column x.serial }
  pub back : counted_in changed ≡ x

-- ---- one row of line more, or less

-- a row of the account's that reads as this line
pub record IsWritten (r : ℕ) (line : Line) (ends : Option ℤ) (row : LineRow) : Type 0 where
  pub account : row.account ≡ registrar_column r
  pub reads : line_of_columns row ≡ Some line
  pub grace_end : row.grace.ends ≡ ends
