-- What one row more means for the accounts.
use Rattle.std.proofs.Common.{◌≡◌, ℕ, ℤ, pos, negsuc, Bool, true, false, cond, ◌&&◌, length, List, [], ◌∷◌, Option, Some, None, inl, inr, refl, sym, ap, ◌∙◌, int_eq, arith}
use Rattle.std.specs.FinMap.{find}
use Rattle.sqlaccounts.proofs.Words.{Account, account_of_row, account_of_rows, AccountRow, accounts_of, and_parts, balance_in, cases_Bool, Content}
use Rattle.sqlaccounts.proofs.Words.{counters_in, counters_of, empty_account, entries_of, eq_by_cmp, eq_by_cmp_equiv, Equal-is, exact_in, FinMap, get}
use Rattle.sqlaccounts.proofs.Words.{get-from_entries, get-insert, get_by, has_right_sums, insert, insert_by, ints, is_exact, is_place, is_right, key-get_by}
use Rattle.sqlaccounts.proofs.Words.{lines_under, list_all, nat_cmp, nat_cmp-IsAntisymmetric, nat_cmp_total, nat_tests, option_map, option_map_or}
use Rattle.sqlaccounts.proofs.Words.{queue_under, registrar_in, row_of, same_int, same_map, sums_are_right, unwrap_or, with_account_changed}
use Rattle.accounts.specs.Lines.{balance}
use Rattle.sqltables.specs.Account as table
use Rattle.sqlrows.proofs.RowLemmas.{all-insert_by, all_with, get_by-insert_by}

abbrev key : AccountRow → ℤ
key = table.accounts.key

-- numbers are told apart as places are
nat-int : (a b : ℕ) → int_eq (pos a) (pos b) ≡ eq_by_cmp nat_cmp a b
nat-int a b = grind (arith, ints, nat_tests)

-- the account of a place, by its row
abbrev pub account_at : Content → ℕ → Option AccountRow → Option Account
account_at xs q row = cond (is_place q) (option_map (account_of_row xs) row) None

entry-pos : (q n : ℕ) (v : Account) (es : List (ℕ × Account)) → find nat_cmp q (option_map_or (λ place. (place, v) ∷ es) (cond (is_place n) (Some n) None) es) ≡ cond (eq_by_cmp nat_cmp n q && is_place q) (Some v) (find nat_cmp q es)
entry-pos q n v es = grind (arith, nat_tests)

entry : (q : ℕ) (id : ℤ) (v : Account) (es : List (ℕ × Account)) → find nat_cmp q (option_map_or (λ place. (place, v) ∷ es) (registrar_in id) es) ≡ cond (int_eq id (pos q) && is_place q) (Some v) (find nat_cmp q es)
entry q (pos n) v es = rw (nat-int n q) (entry-pos q n v es)
entry q (negsuc n) v es = refl

find-entries : (xs : Content) (rows : List AccountRow) (q : ℕ) → find nat_cmp q (entries_of xs rows) ≡ account_at xs q (get_by key rows (pos q))
find-entries xs [] q = grind arith
find-entries xs (row ∷ rows) q = grind (arith, entry q row.id (account_of_row xs row) (entries_of xs rows), find-entries xs rows q)

pub get-accounts_of : (xs : Content) (q : ℕ) → get (accounts_of xs) q ≡ account_at xs q (row_of xs (pos q))
get-accounts_of xs q = get-from_entries nat_cmp_total (entries_of xs xs.accounts) q ∙ find-entries xs xs.accounts q

-- a row that is there
pub get-found : (xs : Content) (q : ℕ) (row : AccountRow) → is_place q ≡ true → row_of xs (pos q) ≡ Some row → get (accounts_of xs) q ≡ Some (account_of_row xs row)
get-found xs q row place found = get-accounts_of xs q ∙ (λ i. cond (place i) (option_map (account_of_row xs) (found i)) None)

-- ---- what a row says of the account

exact-is : (n m : ℕ) (b : Bool) → cond b (Some m) None ≡ Some n → n ≡ m
exact-is n m b e = grind arith

no_lines : pos 0 ≡ balance []
unfolding balance
no_lines = refl

module _ (xs : Content) (q : ℕ) (place : is_place q ≡ true) where
  account-found : (row : Option AccountRow) → row ≡ row_of xs (pos q) → unwrap_or (option_map (account_of_row xs) row) empty_account ≡ account_of_rows q xs
  account-found row is = ap (λ o. unwrap_or (option_map (account_of_row xs) o) empty_account) is ∙ sym (ap (λ a. unwrap_or a empty_account) (get-accounts_of xs q ∙ ap (λ b. cond b (option_map (account_of_row xs) (row_of xs (pos q))) None) place))

  pub counters_found : (row : Option AccountRow) → row ≡ row_of xs (pos q) → counters_in row ≡ counters_of (account_of_rows q xs)
  counters_found None is = ap counters_of (account-found None is)
  counters_found (Some row) is = ap counters_of (account-found (Some row) is)

  right-there : (row : Option AccountRow) → row ≡ row_of xs (pos q) → sums_are_right xs ≡ true → option_map_or (is_right xs) row true ≡ true
  right-there None is sums = refl
  right-there (Some row) is sums = ap (λ r. option_map_or (is_right xs) r true) is ∙ (and_parts _ _ (all_with key (has_right_sums xs) xs.accounts (pos q) row (sym is) ∙ sums)).0

  pub balance_found : (row : Option AccountRow) → row ≡ row_of xs (pos q) → sums_are_right xs ≡ true → option_map_or (λ (r : AccountRow). balance_in r.balance) row (pos 0) ≡ balance (account_of_rows q xs).lines
  balance_found None is sums = no_lines ∙ ap (λ (a : Account). balance a.lines) (account-found None is)
  balance_found (Some row) is sums = same_int _ _ (and_parts _ _ (right-there (Some row) is sums)).0 ∙ ap (λ (a : Account). balance a.lines) (account-found (Some row) is)

  pub waiting_found : (row : Option AccountRow) (n : ℕ) → row ≡ row_of xs (pos q) → sums_are_right xs ≡ true → exact_in (option_map_or (λ (r : AccountRow). r.waiting) row (pos 0)) ≡ Some n → n ≡ length (account_of_rows q xs).queue
  waiting_found None n is sums e = exact-is n 0 (is_exact 0) e ∙ ap (λ (a : Account). length a.queue) (account-found None is)
  waiting_found (Some row) n is sums e =
      let count = length (queue_under xs row.id) in
      let same : row.waiting ≡ pos count = same_int _ _ (and_parts _ _ (right-there (Some row) is sums)).1 in
      exact-is n count (is_exact count) (sym (ap exact_in same) ∙ e) ∙ ap (λ (a : Account). length a.queue) (account-found (Some row) is)

-- ---- one row in the place of another, or beside all others

module _ (xs ys : Content) (r : ℕ) (new : AccountRow) (put : ys.accounts ≡ insert_by key xs.accounts new) (at : new.id ≡ pos r) where
  row_now : (id : ℤ) → row_of ys id ≡ cond (int_eq (pos r) id) (Some new) (row_of xs id)
  row_now id = ap (λ rows. get_by key rows id) put ∙ get_by-insert_by key xs.accounts new id ∙ ap (λ k. cond (int_eq k id) (Some new) (row_of xs id)) at

  pub row_here : (id : ℤ) → int_eq (pos r) id ≡ true → row_of ys id ≡ Some new
  row_here id e = row_now id ∙ ap (λ b. cond b (Some new) (row_of xs id)) e

  pub row_there : (id : ℤ) → int_eq (pos r) id ≡ false → row_of ys id ≡ row_of xs id
  row_there id e = row_now id ∙ ap (λ b. cond b (Some new) (row_of xs id)) e

tied : (r q : ℕ) → int_eq (pos r) (pos q) ≡ eq_by_cmp nat_cmp q r
tied r q = nat-int r q ∙ (eq_by_cmp_equiv nat_cmp_total).symm r q

module _ (xs ys : Content) (r : ℕ) (f : Account → Account) (new : AccountRow)
    (place : is_place r ≡ true) (put : ys.accounts ≡ insert_by key xs.accounts new) (at : new.id ≡ pos r)
    (lines : (id : ℤ) → int_eq (pos r) id ≡ false → lines_under ys id ≡ lines_under xs id)
    (queues : (id : ℤ) → int_eq (pos r) id ≡ false → queue_under ys id ≡ queue_under xs id)
    (here : account_of_row ys new ≡ f (unwrap_or (get (accounts_of xs) r) empty_account)) (right : is_right ys new ≡ has_right_sums xs (pos r)) where
  account-there : (o : Option AccountRow) (id : ℤ) → row_of xs id ≡ o → int_eq (pos r) id ≡ false
      → (option_map (account_of_row ys) o ≡ option_map (account_of_row xs) o) × (option_map_or (is_right ys) o true ≡ option_map_or (is_right xs) o true)
  account-there None id is e = (refl, refl)
  account-there (Some x) id is e =
      let apart : int_eq (pos r) x.id ≡ false = ap (int_eq (pos r)) (key-get_by key xs.accounts id x is) ∙ e in (
        λ i. Some (record (account_of_row xs x) { lines = lines x.id apart i; queue = queues x.id apart i }),
        λ i. int_eq (balance_in x.balance) (balance (lines x.id apart i)) && int_eq x.waiting (pos (length (queues x.id apart i))),
      )

  value : Account
  value = f (unwrap_or (get (accounts_of xs) r) empty_account)

  value_is : account_of_row ys new ≡ value
  unfolding value
  value_is = here

  account-at : (q : ℕ) (b : Bool) → int_eq (pos r) (pos q) ≡ b → eq_by_cmp nat_cmp q r ≡ b
      → account_at ys q (row_of ys (pos q)) ≡ cond b (Some value) (get (accounts_of xs) q)
  account-at q true e same =
      ap (account_at ys q) (row_here xs ys r new put at (pos q) e)
      ∙ ap (λ b. cond b (Some (account_of_row ys new)) None) (ap is_place (nat_cmp-IsAntisymmetric q r ((Equal-is (nat_cmp q r)).0 same)) ∙ place)
      ∙ ap Some value_is
  account-at q false e same =
      ap (account_at ys q) (row_there xs ys r new put at (pos q) e)
      ∙ ap (λ a. cond (is_place q) a None) (account-there (row_of xs (pos q)) (pos q) refl e).0
      ∙ sym (get-accounts_of xs q)

  pub accounts-put : accounts_of ys ≡ with_account_changed f (accounts_of xs) r
  unfolding value
  accounts-put = same_map nat_cmp_total nat_cmp-IsAntisymmetric _ _ (λ q.
      get-accounts_of ys q ∙ account-at q (eq_by_cmp nat_cmp q r) (tied r q) refl ∙ sym (get-insert nat_cmp_total (accounts_of xs) r value q))

  rights : (id : ℤ) (b : Bool) → int_eq (pos r) id ≡ b → has_right_sums ys id ≡ has_right_sums xs id
  rights id true e =
      ap (λ o. option_map_or (is_right ys) o true) (row_here xs ys r new put at id e) ∙ right ∙ ap (has_right_sums xs) (same_int (pos r) id e)
  rights id false e =
      ap (λ o. option_map_or (is_right ys) o true) (row_there xs ys r new put at id e) ∙ (account-there (row_of xs id) id refl e).1

  own : (o : Option AccountRow) → row_of xs (pos r) ≡ o
      → (has_right_sums xs (pos r) && list_all (λ x. has_right_sums xs (key x)) xs.accounts) ≡ list_all (λ x. has_right_sums xs (key x)) xs.accounts
  own None e = rw e
  own (Some row) e = all_with key (has_right_sums xs) xs.accounts (pos r) row e

  pub sums-put : sums_are_right ys ≡ sums_are_right xs
  sums-put =
      ap (list_all (λ x. has_right_sums ys (key x))) put
      ∙ all-insert_by key (has_right_sums ys) xs.accounts new
      ∙ (λ i. rights new.id _ refl i && list_all (λ (x : AccountRow). rights x.id _ refl i) xs.accounts)
      ∙ ap (λ k. has_right_sums xs k && list_all (λ x. has_right_sums xs (key x)) xs.accounts) at
      ∙ own (row_of xs (pos r)) refl

-- ---- nothing changed

put-same : (m : FinMap nat_cmp Account) (r : ℕ) (a : Account) → get m r ≡ Some a → m ≡ insert m r a
put-same m r a there = same_map nat_cmp_total nat_cmp-IsAntisymmetric _ _ (λ q. sym (get-insert nat_cmp_total m r a q ∙ elim (cases_Bool (eq_by_cmp nat_cmp q r)) [
  | inl e ↦ rw (e, nat_cmp-IsAntisymmetric q r ((Equal-is (nat_cmp q r)).0 e), there)
  | inr e ↦ rw e
]))

pub kept_accounts : (xs : Content) (r : ℕ) (f : Account → Account) (row : AccountRow) → is_place r ≡ true → row_of xs (pos r) ≡ Some row → f (account_of_row xs row) ≡ account_of_row xs row
    → accounts_of xs ≡ with_account_changed f (accounts_of xs) r
kept_accounts xs r f row place there still =
    let found = get-found xs r row place there in
    put-same (accounts_of xs) r (account_of_row xs row) found ∙ ap (insert (accounts_of xs) r) (sym (ap (λ a. f (unwrap_or a empty_account)) found ∙ still))
