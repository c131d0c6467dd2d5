-- What a sort leaves is the bag of the same items in its order.
use Rattle.std.proofs.Common.{◌≡◌, ℕ, ◌+◌, ◌<◌, zero, suc, Bool, true, false, cond, List, [], ◌∷◌, length, slice_index_or, slice_set, refl, sym, ap, ◌∙◌, arith}
use Rattle.std.proofs.lemmas.{Cmp.nat_list_cmp_total, Grind.get_or-set_at, List.{get_or-set_other, length-set, Sorted.IsPermutation-keeps}}
use Rattle.std.specs.{Cmp.Lexicographic.slice_cmp, List.{swap, Sorted.{IsPermutation, IsSortedBy}}, Ordering.{nat_cmp, is_le, is_lt}}
use Rattle.basis.specs.Bag.{IsLinear, add, bag_of, taken}
use Rattle.basis.proofs.{BagLaws.{add-add, le-itself, taken-add}, OrderLaws.{le_unless, linear_by_numbers}}
use Rattle.accounts.specs.{declared.line.Line.Line, Lines.{in_order, numbers}}
use Rattle.accounts.proofs.LineLaws.{lines_in_order}
use Rattle.statements.specs.Tables.{by_moment, place, precedes_in_time}

-- ---- the order of lines

same_numbers : (a b : Line) → numbers a ≡ numbers b → in_order a b ≡ true
unfolding in_order
same_numbers a b e = ap (λ (n : List ℕ). is_le (slice_cmp nat_cmp n (numbers b))) e ∙ le-itself in_order lines_in_order b (in_order b b) refl

place_only : (a b : Line) → place a ≡ place b → a ≡ b
unfolding place
place_only a b e =
    let same : numbers a ≡ numbers b = cc in
    lines_in_order.antisym a b (same_numbers a b same) (same_numbers b a (sym same))

pub lines_in_time : IsLinear precedes_in_time
unfolding precedes_in_time
lines_in_time = linear_by_numbers place place_only

-- ---- the bag of items that change their places

module _ {A : Type 0} (le : A → A → Bool) (h : IsLinear le) where
  -- one item for another
  set-bag : (l : List A) (i : ℕ) (x d : A) → i < length l → add le (slice_index_or l i d) (bag_of le (slice_set l i x)) ≡ add le x (bag_of le l)
  unfolding bag_of
  set-bag [] i x d within = absurd (omega arith)
  set-bag (y ∷ ys) zero x d within = add-add le h y x (bag_of le ys)
  set-bag (y ∷ ys) (suc i) x d within =
      add-add le h (slice_index_or ys i d) y (bag_of le (slice_set ys i x))
      ∙ ap (add le y) (set-bag ys i x d (omega (arith, within)))
      ∙ add-add le h y x (bag_of le ys)

  there : (l : List A) (i j : ℕ) (d : A) → i < length l → j < length l → slice_index_or (slice_set l i (slice_index_or l j d)) j d ≡ slice_index_or l j d
  there l i j d a b = grind (arith, get_or-set_at l i j (slice_index_or l j d) d, get_or-set_other l i j (slice_index_or l j d) d, a)

  swap-bag : (l : List A) (i j : ℕ) → i < length l → j < length l → bag_of le (swap l i j) ≡ bag_of le l
  swap-bag [] i j a b = absurd (omega arith)
  swap-bag (d ∷ ys) i j a b =
      let l = d ∷ ys in
      let x = slice_index_or l i d in
      let y = slice_index_or l j d in
      let m = slice_set l i y in
      let inside : j < length m = omega (arith, b, length-set l i y) in
      let one : add le x (bag_of le m) ≡ add le y (bag_of le l) = set-bag l i y d a in
      let two : add le (slice_index_or m j d) (bag_of le (slice_set m j x)) ≡ add le x (bag_of le m) = set-bag m j x d inside in
      let both : add le y (bag_of le (slice_set m j x)) ≡ add le y (bag_of le l) = ap (λ (z : A). add le z (bag_of le (slice_set m j x))) (sym (there l i j d a b)) ∙ two ∙ one in
      sym (taken-add le h y (bag_of le (slice_set m j x))) ∙ ap (taken le y) both ∙ taken-add le h y (bag_of le l)

  pub moved-bag : (xs ys : List A) → IsPermutation xs ys → bag_of le ys ≡ bag_of le xs
  moved-bag xs ys moved = IsPermutation-keeps xs (λ (l : List A). bag_of le l ≡ bag_of le xs) refl (λ l i j a b same. swap-bag l i j a b ∙ same) ys moved

  -- of a bag in another order
  add-other : (other : A → A → Bool) (x y : A) (ys : List A) (b : Bool) → bag_of le (add other x ys) ≡ add le x (bag_of le ys)
      → bag_of le (cond b (x ∷ y ∷ ys) (y ∷ add other x ys)) ≡ add le x (bag_of le (y ∷ ys))
  unfolding bag_of
  add-other other x y ys true e = refl
  add-other other x y ys false e = ap (add le y) e ∙ add-add le h y x (bag_of le ys)

  added-bag : (other : A → A → Bool) (x : A) (ys : List A) → bag_of le (add other x ys) ≡ add le x (bag_of le ys)
  unfolding bag_of add
  added-bag other x [] = refl
  added-bag other x (y ∷ ys) = add-other other x y ys (other x y) (added-bag other x ys)

  pub other-bag : (other : A → A → Bool) (xs : List A) → bag_of le (bag_of other xs) ≡ bag_of le xs
  unfolding bag_of
  other-bag other [] = refl
  other-bag other (x ∷ xs) = added-bag other x (bag_of other xs) ∙ ap (add le x) (other-bag other xs)

  -- of what stands in the order
  put-first : (x y : A) (ys : List A) → le x y ≡ true → add le x (y ∷ ys) ≡ x ∷ y ∷ ys
  unfolding add
  put-first x y ys first = ap (λ (b : Bool). cond b (x ∷ y ∷ ys) (y ∷ add le x ys)) first

  later : (lt : A → A → Bool) (x y : A) (ys : List A) → IsSortedBy lt (x ∷ y ∷ ys) → IsSortedBy lt (y ∷ ys)
  later lt x y ys up k d low high =
      let next : suc (k + 1) ≡ suc k + 1 = omega arith in
      ap (λ (n : ℕ). lt (slice_index_or (x ∷ y ∷ ys) n d) (slice_index_or (y ∷ ys) k d)) next ∙ up (suc k) d (omega arith) (omega (arith, high))

  pub sorted-bag : (lt : A → A → Bool) → ((x y : A) → lt y x ≡ false → le x y ≡ true) → (xs : List A) → IsSortedBy lt xs → bag_of le xs ≡ xs
  unfolding bag_of add
  sorted-bag lt first [] up = refl
  sorted-bag lt first (x ∷ []) up = refl
  sorted-bag lt first (x ∷ y ∷ ys) up =
      ap (add le x) (sorted-bag lt first (y ∷ ys) (later lt x y ys up))
      ∙ put-first x y ys (first x y (up 0 x (omega arith) (omega arith)))

-- ---- lines

unless_behind : (x y : Line) → is_lt (slice_cmp nat_cmp (place y) (place x)) ≡ false → precedes_in_time x y ≡ true
unfolding precedes_in_time
unless_behind x y e = le_unless (slice_cmp nat_cmp (place x) (place y)) (slice_cmp nat_cmp (place y) (place x)) (nat_list_cmp_total.antisymm (place x) (place y)) e

-- lines that are sorted by their places are those of the account by their moments
pub sorted_lines : (lines listed sorted : List Line) → bag_of in_order listed ≡ lines → IsPermutation listed sorted
    → IsSortedBy (λ (a b : Line). is_lt (slice_cmp nat_cmp (place a) (place b))) sorted → sorted ≡ by_moment lines
sorted_lines lines listed sorted all moved up =
    sym (sorted-bag precedes_in_time lines_in_time (λ (a b : Line). is_lt (slice_cmp nat_cmp (place a) (place b))) unless_behind sorted up)
    ∙ moved-bag precedes_in_time lines_in_time listed sorted moved
    ∙ sym (other-bag precedes_in_time lines_in_time in_order listed)
    ∙ ap (bag_of precedes_in_time) all
