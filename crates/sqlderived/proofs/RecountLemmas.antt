-- What one row counted anew means, and one after another.
use Rattle.std.proofs.Common.{◌≡◌, ℕ, ℤ, pos, ◌+◌, ◌+ℤ◌, Bool, true, false, cond, ◌==◌, ◌&&◌, Option, Some, None, refl, sym, ap, subst, ◌∙◌, arith, int_eq}
use Rattle.sqlderived.proofs.Words.{account_of_row, AccountRow, accounts_of, AreAlike, AreBoth, AreCounted, both_ways, Content, counts_one}
use Rattle.sqlderived.proofs.Words.{counts_own, eq-eqb, eqb-true, get, has_right_sums, HasChanged, Holders, ints, is_place, is_right, is_some_holder}
use Rattle.sqlderived.proofs.Words.{IsAlikeButHeld, IsCountedAnew, IsHeldCounted, IsRowOf, key-get_by, option_map_or, row_of, same_int, StateOf}
use Rattle.sqlderived.proofs.Words.{then-became, unwrap_or}
use Rattle.sqlite_keyed.specs.Keyed.{insert_by}
use Rattle.accounts.specs.Account.{empty_account}
use Rattle.sqlaccounts.proofs.{AccountLemmas.{accounts-put, get-found, kept_accounts, row_here, row_there, sums-put}, FindingLemmas.equal}
use Rattle.sqltables.proofs.PuttingLemmas.{put-twice}
use Rattle.sqlderived.specs.declared.recounting.Unwritten.{Unwritten}
use Rattle.sqlaccounts.specs.inner.Posting.{with_row}
use Rattle.sqltables.specs.Account as table
use Rattle.sqltables.specs.inner.Content.{accounts_to}

abbrev key : AccountRow → ℤ
key = table.accounts.key

-- ---- single rows

both-itself : (so : AccountRow → AccountRow → Type 0) → ((row : AccountRow) → so row row) → (o : Option AccountRow) → AreBoth so o o
both-itself so each None = tt
both-itself so each (Some row) = each row

both-as : (so as_ : AccountRow → AccountRow → Type 0) → ((a b : AccountRow) → so a b → as_ a b) → (a b : Option AccountRow) → AreBoth so a b → AreBoth as_ a b
both-as so as_ each None None e = tt
both-as so as_ each None (Some b) e = absurd e
both-as so as_ each (Some a) None e = absurd e
both-as so as_ each (Some a) (Some b) e = each a b e

both-on : (so next all : AccountRow → AccountRow → Type 0) → ((a b c : AccountRow) → so a b → next b c → all a c) → (a b c : Option AccountRow) → AreBoth so a b → AreBoth next b c → AreBoth all a c
both-on so next all each None None None e f = tt
both-on so next all each None None (Some c) e f = f
both-on so next all each None (Some b) c e f = absurd e
both-on so next all each (Some a) None c e f = absurd e
both-on so next all each (Some a) (Some b) None e f = f
both-on so next all each (Some a) (Some b) (Some c) e f = each a b c e f

alike-on : (a b c : AccountRow) → IsAlikeButHeld a b → IsAlikeButHeld b c → IsAlikeButHeld a c
alike-on a b c e f = f ∙ ap (λ (x : AccountRow). record x { held = c.held }) e

sum-on : (a b c : ℤ) (l m p q : ℕ) → b +ℤ pos l ≡ a +ℤ pos m → c +ℤ pos p ≡ b +ℤ pos q → c +ℤ pos (l + p) ≡ a +ℤ pos (m + q)
sum-on a b c l m p q e f = omega (arith, ints, e, f)

sum-as : (a b : ℤ) (l m p q : ℕ) → b +ℤ pos l ≡ a +ℤ pos m → l + q ≡ m + p → b +ℤ pos p ≡ a +ℤ pos q
sum-as a b l m p q e f = omega (arith, ints, e, f)

-- ---- all rows

pub anew-on : (l m p q : ℕ → ℕ) (xs ys zs : Content) → IsCountedAnew l m xs ys → IsCountedAnew p q ys zs → IsCountedAnew (λ r. l r + p r) (λ r. m r + q r) xs zs
anew-on l m p q xs ys zs one two = record {
  accounts = two.accounts ∙ one.accounts;
  sums = two.sums ∙ one.sums;
  rows = λ id. both-on IsAlikeButHeld IsAlikeButHeld IsAlikeButHeld alike-on (row_of xs id) (row_of ys id) (row_of zs id) (one.rows id) (two.rows id);
  helds = λ r. both-on (IsHeldCounted (l r) (m r)) (IsHeldCounted (p r) (q r)) (IsHeldCounted (l r + p r) (m r + q r))
      (λ a b c e f. record { rest = alike-on a b c e.rest f.rest; held = sum-on a.held b.held c.held (l r) (m r) (p r) (q r) e.held f.held })
      (row_of xs (pos r)) (row_of ys (pos r)) (row_of zs (pos r)) (one.helds r) (two.helds r);
  rest = two.rest ∙ ap (λ (c : Content). record c { accounts = zs.accounts }) one.rest;
}

pub anew-after : (l m p q : ℕ → ℕ) (a b c : StateOf Content) → HasChanged (IsCountedAnew l m) a b → HasChanged (IsCountedAnew p q) b c
    → HasChanged (IsCountedAnew (λ r. l r + p r) (λ r. m r + q r)) a c
anew-after l m p q a b c one two =
    then-became (IsCountedAnew l m) (IsCountedAnew p q) (IsCountedAnew (λ r. l r + p r) (λ r. m r + q r)) a b c one two (λ clean. anew-on l m p q a.content b.content c.content)

-- so many less and more are as good as others
pub anew-as : (l m p q : ℕ → ℕ) (xs ys : Content) → ((r : ℕ) → l r + q r ≡ m r + p r) → IsCountedAnew l m xs ys → IsCountedAnew p q xs ys
anew-as l m p q xs ys same it = record {
  accounts = it.accounts;
  sums = it.sums;
  rows = it.rows;
  helds = λ r. both-as (IsHeldCounted (l r) (m r)) (IsHeldCounted (p r) (q r)) (λ a b e. record { rest = e.rest; held = sum-as a.held b.held (l r) (m r) (p r) (q r) e.held (same r) })
      (row_of xs (pos r)) (row_of ys (pos r)) (it.helds r);
  rest = it.rest;
}

-- ---- one row counted anew

same-place : (r q : ℕ) → int_eq (pos r) (pos q) ≡ (r == q)
same-place r q =
    both_ways (int_eq (pos r) (pos q)) (r == q)
    (λ e. eq-eqb r q (omega (arith, ints, same_int (pos r) (pos q) e)))
    (λ e. equal (pos r) (pos q) (ap pos (eqb-true r q e)))

module _ (xs : Content) (r l m : ℕ) (row new : AccountRow) (place : is_place r ≡ true) (found : Some row ≡ row_of xs (pos r)) (it : IsHeldCounted l m row new) where
  abbrev ys : Content
  ys = accounts_to (λ rows. insert_by key rows new) xs

  at : new.id ≡ pos r
  at = ap (λ (a : AccountRow). a.id) it.rest ∙ key-get_by key xs.accounts (pos r) row (sym found)

  here : account_of_row ys new ≡ unwrap_or (get (accounts_of xs) r) empty_account
  here = ap (account_of_row xs) it.rest ∙ sym (ap (λ a. unwrap_or a empty_account) (get-found xs r row place (sym found)))

  right : is_right ys new ≡ has_right_sums xs (pos r)
  right = ap (is_right xs) it.rest ∙ ap (λ o. option_map_or (is_right xs) o true) found

  rows-at : (id : ℤ) (b : Bool) → int_eq (pos r) id ≡ b → AreAlike (row_of xs id) (row_of ys id)
  rows-at id true e =
      subst (λ o. AreAlike o (row_of ys id)) (found ∙ ap (row_of xs) (same_int (pos r) id e))
      (subst (λ o. AreAlike (Some row) o) (sym (row_here xs ys r new refl at id e)) it.rest)
  rows-at id false e = subst (λ o. AreAlike (row_of xs id) o) (sym (row_there xs ys r new refl at id e)) (both-itself IsAlikeButHeld (λ a. refl) (row_of xs id))

  helds-at : (q : ℕ) (b : Bool) → int_eq (pos r) (pos q) ≡ b → AreCounted (cond b l 0) (cond b m 0) (row_of xs (pos q)) (row_of ys (pos q))
  helds-at q true e =
      subst (λ o. AreCounted l m o (row_of ys (pos q))) (found ∙ ap (row_of xs) (same_int (pos r) (pos q) e))
      (subst (λ o. AreCounted l m (Some row) o) (sym (row_here xs ys r new refl at (pos q) e)) it)
  helds-at q false e = subst (λ o. AreCounted 0 0 (row_of xs (pos q)) o) (sym (row_there xs ys r new refl at (pos q) e))
      (both-itself (IsHeldCounted 0 0) (λ a. record { rest = refl; held = refl }) (row_of xs (pos q)))

  pub counted-anew : IsCountedAnew (λ q. cond (r == q) l 0) (λ q. cond (r == q) m 0) xs ys
  counted-anew = record {
    accounts = accounts-put xs ys r (λ a. a) new place refl at (λ id e. refl) (λ id e. refl) here right ∙ sym (kept_accounts xs r (λ a. a) row place (sym found) refl);
    sums = sums-put xs ys r (λ a. a) new place refl at (λ id e. refl) (λ id e. refl) here right;
    rows = λ id. rows-at id _ refl;
    helds = λ q. helds-at q (r == q) (same-place r q);
    rest = refl;
  }

-- ---- the row of a registrar, with its own count

own : (r q : ℕ) (o : Option Holders) (b : Bool) → (r == q) ≡ b → cond b (counts_one (is_some_holder r o)) 0 ≡ counts_one (b && is_some_holder q o)
own r q o true e = ap (λ x. counts_one (is_some_holder x o)) (eqb-true r q e)
own r q o false e = refl

crossed : (a b c d : ℕ) → a ≡ c → b ≡ d → a + d ≡ b + c
crossed a b c d e f = omega (arith, e, f)

pub own-counted : (xs : Content) (before after : Option Holders) (r : ℕ) (row new : AccountRow) → is_place r ≡ true → Some row ≡ row_of xs (pos r)
    → IsHeldCounted (counts_one (is_some_holder r before)) (counts_one (is_some_holder r after)) row new → IsCountedAnew (counts_own (Some r) before) (counts_own (Some r) after) xs (with_row new xs)
own-counted xs before after r row new place found counted =
    let l = counts_one (is_some_holder r before) in
    let m = counts_one (is_some_holder r after) in
    anew-as (λ q. cond (r == q) l 0) (λ q. cond (r == q) m 0) (counts_own (Some r) before) (counts_own (Some r) after) xs (with_row new xs)
    (λ q. crossed _ _ _ _ (own r q before (r == q) refl) (own r q after (r == q) refl))
    (counted-anew xs r l m row new place found counted)

-- the row that isn't written yet
pub own-written : (xs : Content) (before after : Option Holders) (it : Unwritten) (new : AccountRow) → IsRowOf it.registrar it.row xs
    → IsHeldCounted (counts_one (is_some_holder it.registrar before)) (counts_one (is_some_holder it.registrar after)) it.row new
    → IsCountedAnew (counts_own (Some it.registrar) before) (counts_own (Some it.registrar) after) (with_row it.row xs) (with_row new xs)
own-written xs before after it new of counted =
    let r = it.registrar in
    let there = sym (row_here xs (with_row it.row xs) r it.row refl of.id (pos r) (equal (pos r) (pos r) refl)) in
    let put : with_row new (with_row it.row xs) ≡ with_row new xs = ap (λ rows. accounts_to (λ _. rows) xs) (put-twice key xs.accounts it.row new (sym (ap (λ (a : AccountRow). a.id) counted.rest))) in
    subst (IsCountedAnew (counts_own (Some r) before) (counts_own (Some r) after) (with_row it.row xs)) put
    (own-counted (with_row it.row xs) before after r it.row new of.place there counted)
