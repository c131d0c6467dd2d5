-- The columns are as right after a change as before.
use Rattle.std.proofs.Common.{◌≡◌, ℕ, ℤ, pos, negsuc, ◌+◌, ◌+ℤ◌, Bool, true, false, cond, List, Option, Some, None, refl, sym, ap, subst, ◌∙◌, arith, int_eq}
use Rattle.sqlderived.proofs.Words.{AccountRow, and_parts, AreAlike, AreBoth, AreCounted, both_ways, Content, counts_where, Domain, domains_of, get}
use Rattle.sqlderived.proofs.Words.{has_right_held, held_of, helds_are_right, ident_and_held, ints, is_held_by, is_held_right, is_place}
use Rattle.sqlderived.proofs.Words.{IsAlikeButHeld, IsConsistent, IsHeldCounted, IsRecounted, key-get_by, option_map, option_map_or, registrar_in}
use Rattle.sqlderived.proofs.{Words.{row_of, same_int, same_some, test_from, unwrap_or, values}, CountLemmas.{count, count-put}}
use Rattle.sqlderived.proofs.NobodyLemmas.{holds-none}
use Rattle.sqlite_keyed.specs.Keyed.{get_by}
use Rattle.sqlrows.proofs.RowLemmas.{all_with}
use Rattle.accounts.specs.declared.account.Account.{Account}
use Rattle.sqlaccounts.specs.inner.Changes.{AreOthersKept, IsChange, IsOpened, opened_row}
use Rattle.sqlaccounts.proofs.FindingLemmas.{equal}
use Rattle.sqlobjects.specs.inner.Changes.{with_named}
use Rattle.sqltables.specs.Account as table

abbrev key : AccountRow → ℤ
key = table.accounts.key

-- ---- all are right where that of each number is

each-right : (xs : Content) → helds_are_right xs ≡ true → (id : ℤ) → has_right_held xs id ≡ true
each-right xs right id = go (row_of xs id) refl
  where
    go : (o : Option AccountRow) → row_of xs id ≡ o → has_right_held xs id ≡ true
    go None e = ap (λ o. option_map_or (is_held_right xs) o true) e
    go (Some row) e = (and_parts _ _ (all_with key (has_right_held xs) xs.accounts id row e ∙ right)).0

pub right-alike : (xs ys : Content) → ((id : ℤ) → has_right_held ys id ≡ has_right_held xs id) → helds_are_right ys ≡ helds_are_right xs
right-alike xs ys same =
    both_ways (helds_are_right ys) (helds_are_right xs)
    (λ right. test_from (λ (row : AccountRow). has_right_held xs row.id) xs.accounts (λ row there. sym (same row.id) ∙ each-right ys right row.id))
    (λ right. test_from (λ (row : AccountRow). has_right_held ys row.id) ys.accounts (λ row there. same row.id ∙ each-right xs right row.id))

-- ---- the column and the count change by the same

same-right : (a b : ℤ) (x y l m : ℕ) → b +ℤ pos l ≡ a +ℤ pos m → y + l ≡ x + m → int_eq b (pos y) ≡ int_eq a (pos x)
same-right a b x y l m e f =
    both_ways (int_eq b (pos y)) (int_eq a (pos x))
    (λ is. equal a (pos x) (omega (arith, ints, e, f, same_int b (pos y) is)))
    (λ is. equal b (pos y) (omega (arith, ints, e, f, same_int a (pos x) is)))

-- a row's column, by its number
right-at : (xs : Content) (id : ℤ) (row : AccountRow) → row_of xs id ≡ Some row → is_held_right xs row ≡ option_map_or (λ r. int_eq row.held (pos (held_of xs r))) (registrar_in id) true
right-at xs id row e = ap (λ k. option_map_or (λ r. int_eq row.held (pos (held_of xs r))) (registrar_in k) true) (key-get_by key xs.accounts id row e)

module _ (xs ys : Content) (l m : ℕ → ℕ) (domains : (r : ℕ) → held_of ys r + l r ≡ held_of xs r + m r) where
  at-place : (r : ℕ) (a b : AccountRow) (p : Bool) → b.held +ℤ pos (l r) ≡ a.held +ℤ pos (m r)
      → option_map_or (λ q. int_eq b.held (pos (held_of ys q))) (cond p (Some r) None) true ≡ option_map_or (λ q. int_eq a.held (pos (held_of xs q))) (cond p (Some r) None) true
  at-place r a b true e = same-right a.held b.held (held_of xs r) (held_of ys r) (l r) (m r) e (domains r)
  at-place r a b false e = refl

  both-right : (so : AccountRow → AccountRow → Type 0) (id : ℤ) → ((a b : AccountRow) → so a b
      → option_map_or (λ q. int_eq b.held (pos (held_of ys q))) (registrar_in id) true ≡ option_map_or (λ q. int_eq a.held (pos (held_of xs q))) (registrar_in id) true)
      → (o n : Option AccountRow) → row_of xs id ≡ o → row_of ys id ≡ n → AreBoth so o n → option_map_or (is_held_right ys) n true ≡ option_map_or (is_held_right xs) o true
  both-right so id each None None e f it = refl
  both-right so id each None (Some b) e f it = absurd it
  both-right so id each (Some a) None e f it = absurd it
  both-right so id each (Some a) (Some b) e f it = right-at ys id b f ∙ each a b it ∙ sym (right-at xs id a e)

  counted-right : ((id : ℤ) → AreAlike (row_of xs id) (row_of ys id)) → ((r : ℕ) → AreCounted (l r) (m r) (row_of xs (pos r)) (row_of ys (pos r))) → helds_are_right ys ≡ helds_are_right xs
  counted-right rows helds = right-alike xs ys each
    where
      each : (id : ℤ) → has_right_held ys id ≡ has_right_held xs id
      each (pos r) = both-right (IsHeldCounted (l r) (m r)) (pos r) (λ a b it. at-place r a b (is_place r) it.held) (row_of xs (pos r)) (row_of ys (pos r)) refl refl (helds r)
      each (negsuc n) = both-right IsAlikeButHeld (negsuc n) (λ a b it. refl) (row_of xs (negsuc n)) (row_of ys (negsuc n)) refl refl (rows (negsuc n))

-- ---- a domain in the place of another, or of none

-- the registrars are counted anew, and then one domain, or none, is put in the place of the other
pub held-kept : (old mid new : Content) (before after : Option Domain) (name : List ℕ)
    → IsRecounted before after old mid → get (domains_of old) name ≡ before → domains_of new ≡ with_named (domains_of mid) name after → new.accounts ≡ mid.accounts
    → helds_are_right new ≡ helds_are_right old
held-kept old mid new before after name counted was is accounts =
    counted-right old new (λ r. counts_where (is_held_by r) before) (λ r. counts_where (is_held_by r) after) domains
    (λ id. subst (λ o. AreAlike (row_of old id) o) (sym (rows id)) (counted.rows id))
    (λ r. subst (λ o. AreCounted (counts_where (is_held_by r) before) (counts_where (is_held_by r) after) (row_of old (pos r)) o) (sym (rows (pos r))) (counted.helds r))
  where
    rows : (id : ℤ) → row_of new id ≡ row_of mid id
    rows id = ap (λ xs. get_by key xs id) accounts

    mid-is : domains_of mid ≡ domains_of old
    mid-is = ap domains_of counted.rest

    domains : (r : ℕ) → held_of new r + counts_where (is_held_by r) before ≡ held_of old r + counts_where (is_held_by r) after
    domains r =
        (λ i. count (is_held_by r) (values ((is ∙ ap (λ m. with_named m name after) mid-is) i)) + counts_where (is_held_by r) (sym was i))
        ∙ count-put (is_held_by r) (domains_of old) name after

-- ---- other changes

abbrev column : Option AccountRow → Option ℤ
column o = option_map (λ (row : AccountRow). row.held) o

-- the domains are the same, and the columns of each number
module _ (xs ys : Content) (domains : domains_of ys ≡ domains_of xs) where
  same-held : (r : ℕ) → held_of ys r ≡ held_of xs r
  same-held r = ap (λ m. count (is_held_by r) (values m)) domains

  column-right : (id : ℤ) (o n : Option AccountRow) → row_of xs id ≡ o → row_of ys id ≡ n → column n ≡ column o → option_map_or (is_held_right ys) n true ≡ option_map_or (is_held_right xs) o true
  column-right id None None e f same = refl
  column-right id None (Some b) e f same = cc
  column-right id (Some a) None e f same = cc
  column-right id (Some a) (Some b) e f same =
      right-at ys id b f ∙ (λ i. option_map_or (λ r. int_eq (same_some b.held a.held same i) (pos (same-held r i))) (registrar_in id) true) ∙ sym (right-at xs id a e)

  pub columns-kept : ((id : ℤ) → column (row_of ys id) ≡ column (row_of xs id)) → helds_are_right ys ≡ helds_are_right xs
  columns-kept same = right-alike xs ys (λ id. column-right id (row_of xs id) (row_of ys id) refl refl (same id))

  pub accounts-kept : ys.accounts ≡ xs.accounts → helds_are_right ys ≡ helds_are_right xs
  accounts-kept same = columns-kept (λ id. ap (λ rows. column (get_by key rows id)) same)

pub domains-kept : (old new : Content) → AreOthersKept old new → domains_of new ≡ domains_of old
domains-kept old new it = λ i. domains_of (record new { contacts = it.contacts i; domains = it.domains i; hosts = it.hosts i; links = it.links i; transfers = it.transfers i })

-- an account is changed (what it counts, its lines, its messages)
pub change-kept : (r : ℕ) (f : Account → Account) (old new : Content) → IsChange r f old new → helds_are_right new ≡ helds_are_right old
change-kept r f old new it = columns-kept old new (domains-kept old new it.others) (λ id. held-of (row_of old id) (row_of new id) (it.idents_and_held id))
  where
    held-of : (o n : Option AccountRow) → option_map ident_and_held n ≡ option_map ident_and_held o → column n ≡ column o
    held-of None None e = refl
    held-of None (Some b) e = cc
    held-of (Some a) None e = cc
    held-of (Some a) (Some b) e = ap (λ (s : List ℕ × ℤ). Some s.1) (same_some (ident_and_held b) (ident_and_held a) e)

-- an account is opened
module _ (old new : Content) (r : ℕ) (consistent : IsConsistent old) (it : IsOpened r old new) where
  opened-held : held_of new r ≡ held_of old r
  opened-held = same-held old new (domains-kept old new it.others) r

  own-right : (p : Bool) → row_of old (pos r) ≡ None → option_map_or (λ q. int_eq (pos 0) (pos (held_of new q))) (cond p (Some r) None) true ≡ true
  own-right true none = equal (pos 0) (pos (held_of new r)) (ap pos (sym (opened-held ∙ holds-none old r consistent none)))
  own-right false none = refl

  opened-own : (o : Option AccountRow) → row_of old (pos r) ≡ o → has_right_held new (pos r) ≡ option_map_or (is_held_right old) o true
  opened-own None e =
      let mine : row_of new (pos r) ≡ Some (opened_row r) = it.own ∙ ap (λ o. Some (unwrap_or o (opened_row r))) e in
      ap (λ o. option_map_or (is_held_right new) o true) mine ∙ own-right (is_place r) e
  opened-own (Some row) e =
      let mine : row_of new (pos r) ≡ Some row = it.own ∙ ap (λ o. Some (unwrap_or o (opened_row r))) e in
      column-right old new (domains-kept old new it.others) (pos r) (Some row) (row_of new (pos r)) e refl (ap column mine)

  opened-at : (id : ℤ) (b : Bool) → int_eq (pos r) id ≡ b → has_right_held new id ≡ has_right_held old id
  opened-at id true e = ap (has_right_held new) (sym (same_int (pos r) id e)) ∙ opened-own (row_of old (pos r)) refl ∙ ap (has_right_held old) (same_int (pos r) id e)
  opened-at id false e = column-right old new (domains-kept old new it.others) id (row_of old id) (row_of new id) refl refl (ap column (it.rows id e))

  pub opening-kept : helds_are_right new ≡ helds_are_right old
  opening-kept = right-alike old new (λ id. opened-at id _ refl)
