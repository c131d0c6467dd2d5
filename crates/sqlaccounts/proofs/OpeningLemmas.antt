-- What an account that is opened means.
use Rattle.std.proofs.Common.{◌≡◌, ℕ, pos, true, false, cond, ◌&&◌, length, [], Option, Some, None, is_some, refl, sym, ap, ◌∙◌, int_eq}
use Rattle.sqlaccounts.proofs.Words.{account_of_row, AccountRow, accounts_of, accounts_to, balance_in, Content, empty_account, get, has_right_sums}
use Rattle.sqlaccounts.proofs.Words.{insert_by, is_place, is_right, IsConsistent, IsOpened, opened_row, option_map, option_map_or, row_of, unwrap_or}
use Rattle.sqlaccounts.proofs.AccountLemmas.{accounts-put, get-accounts_of, kept_accounts, row_here, row_there, sums-put}
use Rattle.sqlaccounts.proofs.{FindingLemmas.equal, ConsistencyLemmas.{lines-of-none, queue-of-none}}
use Rattle.accounts.specs.Lines.{balance}
use Rattle.sqltables.specs.Account as account_table

no_cents : int_eq (balance_in (opened_row 0).balance) (balance []) ≡ true
unfolding balance
no_cents = refl

module _ (xs : Content) (r : ℕ) (consistent : IsConsistent xs) (place : is_place r ≡ true) (none : row_of xs (pos r) ≡ None) where
  abbrev new : AccountRow
  new = opened_row r

  abbrev ys : Content
  ys = accounts_to (λ rows. insert_by account_table.accounts.key rows new) xs

  here : account_of_row ys new ≡ unwrap_or (get (accounts_of xs) r) empty_account
  here =
      (λ i. record { lines = lines-of-none xs (pos r) consistent none i; queue = queue-of-none xs (pos r) consistent none i; commands = 0; messages = 0; serial = 0 })
      ∙ sym (ap (λ a. unwrap_or a empty_account) (get-accounts_of xs r ∙ (λ i. cond (place i) (option_map (account_of_row xs) (none i)) None)))

  right : is_right ys new ≡ has_right_sums xs (pos r)
  right =
      (λ i. int_eq (balance_in new.balance) (balance (lines-of-none xs (pos r) consistent none i)) && int_eq (pos 0) (pos (length (queue-of-none xs (pos r) consistent none i))))
      ∙ ap (λ b. b && true) no_cents ∙ sym (ap (λ o. option_map_or (is_right xs) o true) none)

  -- where it wasn't there
  opened : IsOpened r xs ys
  opened = record {
    accounts = accounts-put xs ys r (λ a. a) new place refl refl (λ id e. refl) (λ id e. refl) here right;
    sums = sums-put xs ys r (λ a. a) new place refl refl (λ id e. refl) (λ id e. refl) here right;
    own = row_here xs ys r new refl refl (pos r) (equal (pos r) (pos r) refl) ∙ sym (ap (λ o. Some (unwrap_or o new)) none);
    rows = λ id e. row_there xs ys r new refl refl id e;
    others = record { metas = refl; days = refl; contacts = refl; domains = refl; hosts = refl; addresses = refl; links = refl; transfers = refl };
    lines = refl;
    messages = refl;
  }

-- and where it was
pub still-open : (xs : Content) (r : ℕ) (o : Option AccountRow) → is_place r ≡ true → o ≡ row_of xs (pos r) → is_some o ≡ true → IsOpened r xs xs
still-open xs r None place found e = cc
still-open xs r (Some row) place found e = record {
  accounts = kept_accounts xs r (λ a. a) row place (sym found) refl;
  sums = refl;
  own = sym found ∙ ap (λ o. Some (unwrap_or o (opened_row r))) found;
  rows = λ id e. refl;
  others = record { metas = refl; days = refl; contacts = refl; domains = refl; hosts = refl; addresses = refl; links = refl; transfers = refl };
  lines = refl;
  messages = refl;
}

pub opened-now : (xs : Content) (r : ℕ) (o : Option AccountRow) → IsConsistent xs → is_place r ≡ true → o ≡ row_of xs (pos r) → is_some o ≡ false
    → IsOpened r xs (accounts_to (λ rows. insert_by account_table.accounts.key rows (opened_row r)) xs)
opened-now xs r None consistent place found e = opened xs r consistent place (sym found)
opened-now xs r (Some row) consistent place found e = cc
