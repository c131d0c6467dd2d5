-- What an account's row says of the domains that its registrar holds.
use Rattle.std.proofs.Common.{◌≡◌, ℕ, ℤ, pos, Bool, true, false, cond, Option, Some, None, sym, ap, ◌∙◌, int_eq}
use Rattle.sqlderived.proofs.Words.{AccountRow, and_parts, Content, exact_in, has_right_held, held_of, helds_are_right, is_exact, is_held_right}
use Rattle.sqlderived.proofs.Words.{is_place, IsConsistent, key-get_by, option_map_or, registrar_in, row_of, same_int, unwrap_or}
use Rattle.sqlderived.proofs.NobodyLemmas.{holds-none}
use Rattle.sqlrows.proofs.RowLemmas.{all_with}
use Rattle.sqltables.specs.Account as table

abbrev key : AccountRow → ℤ
key = table.accounts.key

-- the row of a place
at_place : (xs : Content) (r : ℕ) (row : AccountRow) → is_place r ≡ true → row.id ≡ pos r → is_held_right xs row ≡ int_eq row.held (pos (held_of xs r))
at_place xs r row place at =
    ap (λ id. option_map_or (λ q. int_eq row.held (pos (held_of xs q))) (registrar_in id) true) at
    ∙ ap (λ b. option_map_or (λ q. int_eq row.held (pos (held_of xs q))) (cond b (Some r) None) true) place

pub held-found : (xs : Content) (r : ℕ) (row : AccountRow) → is_place r ≡ true → Some row ≡ row_of xs (pos r) → helds_are_right xs ≡ true → row.held ≡ pos (held_of xs r)
held-found xs r row place found right =
    let mine : has_right_held xs (pos r) ≡ true = (and_parts _ _ (all_with key (has_right_held xs) xs.accounts (pos r) row (sym found) ∙ right)).0 in
    let at : row.id ≡ pos r = key-get_by key xs.accounts (pos r) row (sym found) in
    same_int _ _ (sym (at_place xs r row place at) ∙ ap (λ o. option_map_or (is_held_right xs) o true) found ∙ mine)

exact-is : (n m : ℕ) (b : Bool) → cond b (Some m) None ≡ Some n → n ≡ m
exact-is n m true e = sym (ap (λ o. unwrap_or o n) e)
exact-is n m false e = cc

-- what the row says, if there is one
pub count-found : (xs : Content) (r : ℕ) (row : Option AccountRow) (n : ℕ) → IsConsistent xs → is_place r ≡ true → row ≡ row_of xs (pos r) → helds_are_right xs ≡ true
    → exact_in (option_map_or (λ (a : AccountRow). a.held) row (pos 0)) ≡ Some n → n ≡ held_of xs r
count-found xs r None n consistent place found right e = exact-is n 0 (is_exact 0) e ∙ sym (holds-none xs r consistent (sym found))
count-found xs r (Some row) n consistent place found right e =
    exact-is n (held_of xs r) (is_exact (held_of xs r)) (sym (ap exact_in (held-found xs r row place found right)) ∙ e)
