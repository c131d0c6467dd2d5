-- A row that takes the place of the one with its number.
use Rattle.std.proofs.Common.{◌≡◌, inl, inr, ℤ, ◌<ℤ◌, true, false, List, [], ◌∷◌, refl, sym, ap, ◌∙◌, subst, arith, Equal, int_cmp, int_eq}
use Rattle.sqlrows.proofs.Words.{AllByRecursion, Has, insert_by, ints, IsKeyedBy, Less-from_lt, update_where}

pub at-all : {X : Type 0} (P : X → Type 0) (xs : List X) (x : X) → AllByRecursion P xs → Has xs x → P x
at-all P [] x each h = absurd h
at-all P (y ∷ ys) x each (inl e) = subst P (sym e) each.0
at-all P (y ∷ ys) x each (inr h) = at-all P ys x each.1 h

in-place : (a b : ℤ) → a ≡ b → int_cmp a b ≡ Equal
in-place a b e = grind (arith, ints)

found : (a b : ℤ) → a ≡ b → int_eq a b ≡ true
found a b e = grind (arith, ints)

apart : (a b : ℤ) → a <ℤ b → int_eq a b ≡ false
apart a b h = grind (arith, ints)

above : (a b : ℤ) → a <ℤ b → int_eq b a ≡ false
above a b h = grind (arith, ints)

module _ {X : Type 0} (key : X → ℤ) where
  -- no row above a number is changed
  none-changed : (xs : List X) (id : ℤ) (f : X → X) → AllByRecursion (λ y. id <ℤ key y) xs → update_where (λ x. int_eq (key x) id) f xs ≡ xs
  none-changed [] id f h = refl
  none-changed (x ∷ xs) id f h = rw (above id (key x) h.0) (ap (λ ys. x ∷ ys) (none-changed xs id f h.1))

  pub replaced-is-put : (xs : List X) (old new : X) (f : X → X) → IsKeyedBy key xs → Has xs old → key old ≡ key new → ((x : X) → key x ≡ key new → f x ≡ new)
      → update_where (λ x. int_eq (key x) (key new)) f xs ≡ insert_by key xs new
  replaced-is-put [] old new f up h same gives = absurd h
  replaced-is-put (x ∷ xs) old new f up (inl e) same gives =
      let at : key x ≡ key new = ap key (sym e) ∙ same in
      rw (found (key x) (key new) at, in-place (key x) (key new) at)
      ((λ i. gives x at i ∷ none-changed xs (key new) f (subst (λ k. AllByRecursion (λ y. k <ℤ key y) xs) at up.0) i))
  replaced-is-put (x ∷ xs) old new f up (inr h) same gives =
      let below : key x <ℤ key new = subst (λ k. key x <ℤ k) same (at-all (λ y. key x <ℤ key y) xs old up.0 h) in
      rw (apart (key x) (key new) below, Less-from_lt (key x) (key new) below) (ap (λ ys. x ∷ ys) (replaced-is-put xs old new f up.1 h same gives))
