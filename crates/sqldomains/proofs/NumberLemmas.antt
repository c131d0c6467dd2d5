-- Rows that have names, by their numbers.
use Rattle.std.proofs.Common.{◌≡◌, ℕ, ℤ, List, Option, Some, option_map, sym, ap, subst, ◌∙◌}
use Rattle.sqldomains.proofs.Words.{Content, get_by-has, Has, IsConsistent, LeadsTo, name_at, NamedTable}

module _ {R : Type 0} (table : NamedTable R) where
  -- a row's number leads to its name
  pub name-there : (xs : Content) → IsConsistent xs → (row : R) → Has (table.rows xs) row → (id : ℤ) → table.key row ≡ id → name_at table xs id ≡ Some (table.name row)
  name-there xs consistent row there id is = ap (name_at table xs) (sym is) ∙ ap (option_map table.name) (get_by-has table.key (table.rows xs) row (table.keyed xs consistent) there)

  -- a number in a column leads to the same name before and after, if it leads to no other
  pub name-kept : (xs ys : Content) → IsConsistent xs × IsConsistent ys → ((id : ℤ) (n m : List ℕ) → name_at table xs id ≡ Some n → name_at table ys id ≡ Some m → n ≡ m)
      → {X : Type 0} (was now : List X) (column : X → Option ℤ) → LeadsTo was column (table.rows xs) table.key → LeadsTo now column (table.rows ys) table.key → now ≡ was → (x : X) → Has was x → (id : ℤ) → column x ≡ Some id
      → name_at table ys id ≡ name_at table xs id
  name-kept xs ys consistent names was now column leads leads_now same x there id is =
      let old = leads x there id is in
      let new = leads_now x (subst (λ l. Has l x) (sym same) there) id is in
      let named = name-there xs consistent.0 old.0 old.1 id old.2 in
      let named_now = name-there ys consistent.1 new.0 new.1 id new.2 in
      named_now ∙ ap Some (sym (names id (table.name old.0) (table.name new.0) named named_now)) ∙ sym named
