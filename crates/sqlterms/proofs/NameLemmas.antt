-- Accounts that have other idents.
use Rattle.std.proofs.Common.{◌≡◌, ℕ, ℤ, ◌<ℤ◌, Bool, true, false, cond, List, [], ◌∷◌, map, Some, refl, sym, ap, ◌∙◌, int_cmp, int_eq}
use Rattle.std.proofs.lemmas.List.Folds.{list_all-map}
use Rattle.std.specs.{Cmp.{int_cmp_total, tied_itself}, FinMap.from_entries, List.list_all, Option.option_map_or, Ordering.match_ordering}
use Rattle.std.specs.declared.cmp.Ordering.{Ordering}
use Rattle.sqlite_keyed.specs.Keyed.{IsKeyedBy, get_by, insert_by}
use Rattle.sqlite_keyed.proofs.KeyedLemmas.{Less-from_lt}
use Rattle.sqlite_rules.proofs.ListLemmas.{all_has, has_found}
use Rattle.accounts.specs.declared.account.Account.{Account}
use Rattle.sqlcolumns.specs.Numbers.{registrar_in}
use Rattle.sqltables.specs.{Account.accounts, declared.account.AccountRow.AccountRow, Content.Content, inner.Content.accounts_to}
use Rattle.sqlaccounts.specs.Accounts.{account_of_row, accounts_of, entries_of, is_right, sums_are_right}
use Rattle.sqlterms.specs.inner.Changes.{IsRenaming, nameless}

abbrev key : AccountRow → ℤ
key = accounts.key

-- ---- one account

-- a row in the place of one that differs in its ident
put_renamed : (rows : List AccountRow) (row new : AccountRow) (id : ℤ) → IsKeyedBy key rows → get_by key rows id ≡ Some row → nameless new ≡ nameless row
    → map nameless (insert_by key rows new) ≡ map nameless rows
put_renamed [] row new id keyed found same = cc
put_renamed (x ∷ xs) row new id keyed found same = go (int_eq x.id id) refl found (λ there. put_renamed xs row new id keyed.1 there same)
  where
    at : new.id ≡ row.id
    at = ap (λ (a : AccountRow). a.id) same

    go : (b : Bool) → int_eq x.id id ≡ b → cond b (Some x) (get_by key xs id) ≡ Some row → (get_by key xs id ≡ Some row → map nameless (insert_by key xs new) ≡ map nameless xs)
        → map nameless (match_ordering (int_cmp x.id new.id) (x ∷ insert_by key xs new) (new ∷ xs) (new ∷ x ∷ xs)) ≡ map nameless (x ∷ xs)
    go true e is rest =
        let one : x ≡ row = cc in
        let equal = ap (λ i. int_cmp i new.id) (ap (λ (a : AccountRow). a.id) one ∙ sym at) ∙ tied_itself int_cmp_total new.id in
        ap (λ (o : Ordering). map nameless (match_ordering o (x ∷ insert_by key xs new) (new ∷ xs) (new ∷ x ∷ xs))) equal
        ∙ ap (λ a. a ∷ map nameless xs) (same ∙ ap nameless (sym one))
    go false e is rest =
        let has = has_found (λ (a : AccountRow). int_eq a.id id) xs row is in
        let below : x.id <ℤ row.id = all_has (λ (a : AccountRow). x.id <ℤ a.id) xs row keyed.0 has.0 in
        let less = ap (int_cmp x.id) at ∙ Less-from_lt x.id row.id below in
        ap (λ (o : Ordering). map nameless (match_ordering o (x ∷ insert_by key xs new) (new ∷ xs) (new ∷ x ∷ xs))) less
        ∙ ap (λ rest. nameless x ∷ rest) (rest is)

pub renamed_one : (xs : Content) (row new : AccountRow) (id : ℤ) → IsKeyedBy key xs.accounts → get_by key xs.accounts id ≡ Some row → nameless new ≡ nameless row
    → IsRenaming xs (accounts_to (λ rows. insert_by key rows new) xs)
renamed_one xs row new id keyed found same = record { rows = put_renamed xs.accounts row new id keyed found same; others = refl }

-- ---- what accounts mean

entries_nameless : (xs : Content) (rows : List AccountRow) → entries_of xs (map nameless rows) ≡ entries_of xs rows
entries_nameless xs [] = refl
entries_nameless xs (row ∷ rows) =
    ap (λ (rest : List (ℕ × Account)). option_map_or (λ place. (place, account_of_row xs row) ∷ rest) (registrar_in row.id) rest) (entries_nameless xs rows)

right_nameless : (xs : Content) (rows : List AccountRow) (id : ℤ) → option_map_or (is_right xs) (get_by key (map nameless rows) id) true ≡ option_map_or (is_right xs) (get_by key rows id) true
right_nameless xs [] id = refl
right_nameless xs (row ∷ rows) id = go (int_eq row.id id) (right_nameless xs rows id)
  where
    go : (b : Bool) → option_map_or (is_right xs) (get_by key (map nameless rows) id) true ≡ option_map_or (is_right xs) (get_by key rows id) true
        → option_map_or (is_right xs) (cond b (Some (nameless row)) (get_by key (map nameless rows) id)) true ≡ option_map_or (is_right xs) (cond b (Some row) (get_by key rows id)) true
    go true e = refl
    go false e = e

sums_nameless : (xs : Content) (rows : List AccountRow) → sums_are_right (record xs { accounts = map nameless rows }) ≡ sums_are_right (record xs { accounts = rows })
sums_nameless xs rows =
    list_all-map (λ (row : AccountRow). option_map_or (is_right xs) (get_by key (map nameless rows) row.id) true) nameless rows
    ∙ (λ i. list_all (λ (row : AccountRow). right_nameless xs rows row.id i) rows)

module _ (xs ys : Content) (same : map nameless ys.accounts ≡ map nameless xs.accounts) (lines : ys.lines ≡ xs.lines) (messages : ys.messages ≡ xs.messages) where
  -- what hangs on no ident
  by-rows : {A : Type 0} (f : List AccountRow → A) → ((rows : List AccountRow) → f (map nameless rows) ≡ f rows) → f ys.accounts ≡ f xs.accounts
  by-rows f nameless-so = sym (nameless-so ys.accounts) ∙ ap f same ∙ nameless-so xs.accounts

  pub same_accounts : accounts_of ys ≡ accounts_of xs
  same_accounts = (λ i. accounts_of (record ys { lines = lines i; messages = messages i })) ∙ by-rows (λ rows. accounts_of (record xs { accounts = rows })) (λ rows. ap from_entries (entries_nameless xs rows))

  pub same_sums : sums_are_right ys ≡ sums_are_right xs
  same_sums = (λ i. sums_are_right (record ys { lines = lines i; messages = messages i })) ∙ by-rows (λ rows. sums_are_right (record xs { accounts = rows })) (sums_nameless xs)
