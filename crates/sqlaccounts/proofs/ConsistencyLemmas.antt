-- No row leads to an account that isn't there.
use Rattle.std.proofs.Common.{◌≡◌, ℕ, ℤ, true, false, cond, List, [], filter, Option, Some, None, refl, sym, ap, ◌∙◌, int_eq}
use Rattle.sqlaccounts.proofs.Words.{account_of_row, account_of_rows, AccountRow, accounts_of, all_from, bag_of, Content, empty_account}
use Rattle.sqlaccounts.proofs.Words.{false_from_ne_true, filter_map, filter_none, get, get_by, in_order, is_place, IsConsistent, key-get_by, LeadsTo}
use Rattle.sqlaccounts.proofs.Words.{line_of_columns, LineRow, lines_under, message_of_columns, MessageRow, option_map, put_all, queue_under}
use Rattle.sqlaccounts.proofs.{Words.{registrar_column, row_of, same_int, unwrap_or}, AccountLemmas.{get-accounts_of, get-found}}
use Rattle.sqlaccounts.proofs.{BagLemmas.bag-nil, FindingLemmas.{equal, unmissed}}
use Rattle.sqltables.specs.Account as account_table

none-with : {X Y : Type 0} (key : Y → ℤ) (column : X → ℤ) (xs : List X) (ys : List Y) (id : ℤ) → LeadsTo xs (λ x. Some (column x)) ys key → get_by key ys id ≡ None → filter (λ x. int_eq (column x) id) xs ≡ []
none-with key column xs ys id leads none = filter_none (λ x. int_eq (column x) id) xs (all_from (λ x. int_eq (column x) id ≡ false) xs (λ x has. false_from_ne_true (int_eq (column x) id) (λ e.
    let it = leads x has id (ap Some (same_int (column x) id e)) in unmissed (λ y. int_eq (key y) id) ys it.0 it.1 (equal (key it.0) id it.2) none)))

-- ---- of an account that isn't there

module _ (xs : Content) (id : ℤ) (consistent : IsConsistent xs) (none : row_of xs id ≡ None) where
  pub lines-of-none : lines_under xs id ≡ []
  lines-of-none = ap (λ rows. bag_of in_order (filter_map line_of_columns rows)) (none-with account_table.accounts.key (λ (x : LineRow). x.account) xs.lines xs.accounts id consistent.linked.line_account none) ∙ bag-nil in_order

  pub queue-of-none : queue_under xs id ≡ []
  queue-of-none = ap (λ rows. put_all (filter_map message_of_columns rows)) (none-with account_table.accounts.key (λ (x : MessageRow). x.account) xs.messages xs.accounts id consistent.linked.message_account none)

-- an account's lines and messages, also where there is none
pub parts-there : (xs : Content) (r : ℕ) → IsConsistent xs → is_place r ≡ true → ((account_of_rows r xs).lines ≡ lines_under xs (registrar_column r)) × ((account_of_rows r xs).queue ≡ queue_under xs (registrar_column r))
parts-there xs r consistent place = go (row_of xs (registrar_column r)) refl
  where
    go : (o : Option AccountRow) → row_of xs (registrar_column r) ≡ o → ((account_of_rows r xs).lines ≡ lines_under xs (registrar_column r)) × ((account_of_rows r xs).queue ≡ queue_under xs (registrar_column r))
    go (Some row) at =
        let found = get-found xs r row place at in
        let own = key-get_by account_table.accounts.key xs.accounts (registrar_column r) row at in
        (ap (λ a. (unwrap_or a empty_account).lines) found ∙ ap (lines_under xs) own, ap (λ a. (unwrap_or a empty_account).queue) found ∙ ap (queue_under xs) own)
    go None at =
        let none : get (accounts_of xs) r ≡ None = get-accounts_of xs r ∙ (λ i. cond (place i) (option_map (account_of_row xs) (at i)) None) in
        (ap (λ a. (unwrap_or a empty_account).lines) none ∙ sym (lines-of-none xs (registrar_column r) consistent at), ap (λ a. (unwrap_or a empty_account).queue) none ∙ sym (queue-of-none xs (registrar_column r) consistent at))
