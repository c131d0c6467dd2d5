-- What counting anew makes of the accounts' rows.
use Rattle.std.specs.Prelude.{◌≡◌, ◌&&◌, ⊤, ℕ, ℤ, pos, ◌+ℤ◌, ◌-ℤ◌, Bool, true, false, Option, Some, None, option_map}
use Rattle.objects.specs.declared.domain.Domain.{Domain}
use Rattle.sqlaccounts.specs.Accounts.{accounts_of, row_of, sums_are_right}
use Rattle.sqlaccounts.specs.inner.Posting.{IsRowOf, with_row}
use Rattle.sqlderived.specs.Held.{counts_one, counts_where, is_held_by}
use Rattle.sqlderived.specs.inner.Holders.{is_some_holder, is_written}
use Rattle.sqlderived.specs.declared.holders.Holders.{Holders}
use Rattle.sqlderived.specs.declared.recounting.Unwritten.{Unwritten}
use Rattle.sqltables.specs.declared.account.AccountRow.{AccountRow}
use Rattle.sqltables.specs.Content.{Content}

-- a row has all columns that it had, but for how many domains are held
abbrev pub IsAlikeButHeld : AccountRow → AccountRow → Type 0
IsAlikeButHeld old new = new ≡ record old { held = new.held }

-- this is so of what there was and what there is, or there is none as there was none
abbrev pub AreBoth : (AccountRow → AccountRow → Type 0) → Option AccountRow → Option AccountRow → Type 0
AreBoth so None None = ⊤
AreBoth so None (Some new) = ⊥
AreBoth so (Some old) None = ⊥
AreBoth so (Some old) (Some new) = so old new

abbrev pub AreAlike : Option AccountRow → Option AccountRow → Type 0
AreAlike old new = AreBoth IsAlikeButHeld old new

-- and of the domains that are held so many are less, and so many more
pub record IsHeldCounted (less more : ℕ) (old new : AccountRow) : Type 0 where
  pub rest : IsAlikeButHeld old new
  pub held : new.held +ℤ pos less ≡ old.held +ℤ pos more

abbrev pub AreCounted : ℕ → ℕ → Option AccountRow → Option AccountRow → Type 0
AreCounted less more old new = AreBoth (IsHeldCounted less more) old new

-- the number, where one domain was held before or not, and is held now or not
abbrev pub held_then : ℤ → Bool → Bool → ℤ
held_then held true false = held -ℤ pos 1
held_then held false true = held +ℤ pos 1
held_then held true true = held
held_then held false false = held

-- For each registrar so many domains are less, and so many more. No other column and no other table is
-- changed, so the accounts are the same, and their other sums are as right as they were.
pub record IsCountedAnew (less more : ℕ → ℕ) (old new : Content) : Type 0 where
  pub accounts : accounts_of new ≡ accounts_of old
  pub sums : sums_are_right new ≡ sums_are_right old
  pub rows : (id : ℤ) → AreAlike (row_of old id) (row_of new id)
  pub helds : (r : ℕ) → AreCounted (less r) (more r) (row_of old (pos r)) (row_of new (pos r))
  pub rest : new ≡ record old { accounts = new.accounts }

-- the column of each registrar is counted anew, where one domain, or none, comes in the place of another
abbrev pub IsRecounted : Option Domain → Option Domain → Content → Content → Type 0
IsRecounted before after old new = IsCountedAnew (λ r. counts_where (is_held_by r) before) (λ r. counts_where (is_held_by r) after) old new

-- ---- a row that isn't written yet

-- it is the row of the registrar's account, or what that is to become
abbrev pub IsUnwritten : Option Unwritten → Content → Type 0
IsUnwritten None xs = ⊤
IsUnwritten (Some it) xs = IsRowOf it.registrar it.row xs

-- the rows, with the one that isn't written yet in its place
abbrev pub with_unwritten : Option Unwritten → Content → Content
with_unwritten None xs = xs
with_unwritten (Some it) xs = with_row it.row xs

-- whose it is
abbrev pub registrar_of : Option Unwritten → Option ℕ
registrar_of it = option_map (λ (x : Unwritten). x.registrar) it

-- 1 for the registrar whose row is written, where it is among the holders
abbrev pub counts_own : Option ℕ → Option Holders → ℕ → ℕ
counts_own written holders r = counts_one (is_written r written && is_some_holder r holders)
