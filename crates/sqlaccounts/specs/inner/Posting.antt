-- What posts make of an account whose row isn't written yet.
use Rattle.std.specs.Prelude.{◌≡◌, ◌⊎◌, ℕ, true, Option, Some, Result, Ok, Err}
use Rattle.sqlite_keyed.specs.Keyed.{insert_by}
use Rattle.sqlite_rules.specs.Lists.{Has}
use Rattle.states.specs.States.{StateOf, Stays}
use Rattle.states.specs.declared.fault.BookFault.{BookFault}
use Rattle.accounts.specs.declared.account.Account.{Account}
use Rattle.accounts.specs.declared.line.Line.{Line}
use Rattle.policy.specs.declared.schedule.Schedule.{Schedule}
use Rattle.sqlcolumns.specs.Lines.{line_of_columns}
use Rattle.sqlcolumns.specs.Numbers.{is_place, maybe_moment_column, registrar_column}
use Rattle.sqlrows.specs.Meanings.{HasChanged}
use Rattle.sqltables.specs.Account as account_table
use Rattle.sqltables.specs.declared.account.AccountRow.{AccountRow}
use Rattle.sqltables.specs.declared.line.LineRow.{LineRow}
use Rattle.sqltables.specs.Content.{Content}
use Rattle.sqltables.specs.inner.Content.{accounts_to}
use Rattle.sqlaccounts.specs.Accounts.{ident_and_held, row_of}
use Rattle.sqlaccounts.specs.Graces.{maybe_grace_end}
use Rattle.sqlaccounts.specs.inner.Changes.{IsChange}

-- the rows, with this one of account in the place of the one with its number
abbrev pub with_row : AccountRow → Content → Content
with_row row xs = accounts_to (λ rows. insert_by account_table.accounts.key rows row) xs

-- the row of a registrar's account, or what that is to become, under the same name
pub record IsRowOf (r : ℕ) (row : AccountRow) (xs : Content) : Type 0 where
  pub place : is_place r ≡ true
  pub id : row.id ≡ registrar_column r
  pub own : AccountRow
  pub there : row_of xs (registrar_column r) ≡ Some own
  pub ident : own.ident ≡ row.ident

-- what a call that posts asks for
pub record IsReady (r : ℕ) (row : AccountRow) (store : StateOf Content) : Type 0 where
  pub begun : store.is_open ≡ true
  pub there : store.is_clean ≡ true → IsRowOf r row store.content

-- a row with the end of its line's grace by these lengths of periods
pub record HasEnd (days : Option Schedule) (row : LineRow) : Type 0 where
  pub line : Line
  pub reads : line_of_columns row ≡ Some line
  pub ends : row.grace.ends ≡ maybe_moment_column (maybe_grace_end days line)

-- A registrar's account is what f makes of it, once its row is written, which isn't yet. Each row of a
-- line that is new has the end of the line's grace.
pub record IsPosted (days : Option Schedule) (r : ℕ) (f : Account → Account) (row changed : AccountRow) (old new : Content) : Type 0 where
  pub change : IsChange r f (with_row row old) (with_row changed new)
  pub unwritten : new.accounts ≡ old.accounts
  pub id : changed.id ≡ row.id
  pub stands : ident_and_held changed ≡ ident_and_held row
  pub ends : (line : LineRow) → Has new.lines line → Has old.lines line ⊎ HasEnd days line

-- a call that posts
abbrev pub PostsTo : Result AccountRow BookFault → Option Schedule → ℕ → (Account → Account) → AccountRow → StateOf Content → StateOf Content → Type 0
PostsTo (Ok changed) days r f row old new = HasChanged (IsPosted days r f row changed) old new
PostsTo (Err fault) days r f row old new = Stays old new

-- one that adds no line, whatever the lengths of periods are
abbrev pub PostsNoLine : Result AccountRow BookFault → ℕ → (Account → Account) → AccountRow → StateOf Content → StateOf Content → Type 0
PostsNoLine result r f row old new = (days : Option Schedule) → PostsTo result days r f row old new
