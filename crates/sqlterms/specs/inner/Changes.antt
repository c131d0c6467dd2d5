-- What calls make of the rows.
use Rattle.std.specs.Prelude.{◌≡◌, ℕ, [], map, Some}
use Rattle.policy.specs.declared.terms.Terms.{Terms}
use Rattle.sqltables.specs.declared.account.AccountRow.{AccountRow}
use Rattle.sqltables.specs.Content.{Content}
use Rattle.sqltables.specs.Readiness.{may_be_numbered}
use Rattle.sqlaccounts.specs.Accounts.{accounts_of, sums_are_right}
use Rattle.sqlterms.specs.Clock.{clock_of}
use Rattle.sqlterms.specs.Terms.{days_of_rows, terms_of_rows}

-- the clock is this, and but for the row of meta all is as it was
pub record IsClockSet (m : ℕ) (old new : Content) : Type 0 where
  pub clock : clock_of new ≡ m
  pub terms : terms_of_rows new ≡ terms_of_rows old
  pub days : days_of_rows new ≡ days_of_rows old
  pub numbered : may_be_numbered new.metas ≡ may_be_numbered old.metas
  pub others : record new { metas = old.metas } ≡ old

-- what an account's row says besides who it is
abbrev pub nameless : AccountRow → AccountRow
nameless row = record row { ident = [] }

-- accounts have other idents, and nothing else is another
pub record IsRenaming (old new : Content) : Type 0 where
  pub rows : map nameless new.accounts ≡ map nameless old.accounts
  pub others : record new { accounts = old.accounts } ≡ old

-- tables of lengths were put down, and nothing else is another
abbrev pub AreDated : Content → Content → Type 0
AreDated old new = record new { days = old.days } ≡ old

-- tables of lengths were put down, accounts have other idents, and nothing else is another
pub record ArePutBeside (old new : Content) : Type 0 where
  pub rows : map nameless new.accounts ≡ map nameless old.accounts
  pub others : record new { accounts = old.accounts; days = old.days } ≡ old

-- The terms are these. But for the row of meta, the rows of days and the accounts' idents all is as it was.
pub record IsTermsSet (value : Terms) (old new : Content) : Type 0 where
  pub terms : terms_of_rows new ≡ Some value
  pub days : days_of_rows new ≡ Some value.days
  pub clock : clock_of new ≡ clock_of old
  pub accounts : accounts_of new ≡ accounts_of old
  pub sums : sums_are_right new ≡ sums_are_right old
  pub rows : map nameless new.accounts ≡ map nameless old.accounts
  pub numbered : may_be_numbered new.metas ≡ may_be_numbered old.metas
  pub others : record new { metas = old.metas; accounts = old.accounts; days = old.days } ≡ old
