-- The first of a sorted list.
use Rattle.std.proofs.{Common.{◌≡◌, Bool, true, false, cond, List, [], ◌∷◌, Option, Some, None, inl, inr, refl, arith}, lemmas.Cmp.upto}
use Rattle.sqlaccounts.proofs.Words.{Has, insert_sorted, is_gt, IsTotalOrder, Ordering, slice_get, sort_by, tied_itself}

module _ {X : Type 0} (cmp : X → X → Ordering) (o : IsTotalOrder cmp) where
  -- the first of these by the order, if there is one
  abbrev pub IsLeast : Option X → List X → Type 0
  IsLeast None xs = xs ≡ []
  IsLeast (Some x) xs = Has xs x × ((y : X) → Has xs y → is_gt (cmp x y) ≡ false)

  pub itself : (x y : X) → y ≡ x → is_gt (cmp x y) ≡ false
  itself x y is = rw (is, tied_itself o x)

  pub turned : (x y z : X) → z ≡ x → is_gt (cmp x y) ≡ true → is_gt (cmp y z) ≡ false
  turned x y z is e = grind (arith, o.antisymm y x)

  put_first : (y : X) (sorted ys : List X) → IsLeast (slice_get sorted 0) ys → IsLeast (slice_get (insert_sorted cmp y sorted) 0) (y ∷ ys)
  put_first y [] ys none = (inl refl, λ w. elim [ inl is ↦ itself y w is | inr has ↦ absurd (rw none at has) ])
  put_first y (z ∷ zs) ys least = go (is_gt (cmp y z)) refl
    where
      go : (b : Bool) → is_gt (cmp y z) ≡ b → IsLeast (slice_get (cond b (z ∷ insert_sorted cmp y zs) (y ∷ z ∷ zs)) 0) (y ∷ ys)
      go true e = (inr least.0, λ w. elim [ inl is ↦ turned y z w is e | inr has ↦ least.1 w has ])
      go false e = (inl refl, λ w. elim [ inl is ↦ itself y w is | inr has ↦ upto o y z w e (least.1 w has) ])

  pub least-sort_by : (xs : List X) → IsLeast (slice_get (sort_by cmp xs) 0) xs
  least-sort_by [] = refl
  least-sort_by (x ∷ xs) = put_first x (sort_by cmp xs) xs (least-sort_by xs)
