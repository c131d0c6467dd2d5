-- A finite set kept as a list that rises: what a search in the list finds, and what the list has.
use Rattle.std.proofs.Common.{◌≡◌, ◌<◌, ◌≤◌, ℕ, Bool, true, false, ◌||◌, cond, List, [], ◌∷◌, map, length, get_or, Option, Some, None, is_some, Result, Ok, Err, is_ok, refl, sym, ap, subst, ◌∙◌, arith}
use Rattle.std.proofs.lemmas.{Bool.Decides.{Decides-and, Decides-like, same_from_decides}, List.Folds.{list_any_at, list_any_none}}
use Rattle.std.proofs.lemmas.{List.Sorted.list_any-IsPermutation, Map.Keys.Less-from_sorted, Slice.Eq.bytes_eq-Decides}
use Rattle.std.specs.{Bool.Decides, Cmp.{IsTotalOrder, alike_right, both_ways, Lexicographic.{slice_cmp, nat_list_cmp_total}}, FinMap.find}
use Rattle.std.specs.FinMap.Entries.{same_entries, is_some-find}
use Rattle.std.specs.FinSet.{contains, from_list, contains-from_list, contains-is_subset, is_subset-contains, same_set}
use Rattle.std.specs.List.{dedup, dedup_from, list_any}
use Rattle.std.specs.List.Sorted.{IsBinarySearchResult, IsNonDecreasingBy, IsPermutation, IsSearchInRange, IsStrictlySortedBy}
use Rattle.std.specs.{Ordering.{eq_by_cmp, is_eq, nat_cmp, ordering_index, ordering_reverse}, Str.bytes_eq, declared.cmp.Ordering.Ordering}
use Rattle.std.specs.declared.cmp.Ordering.TheVariants.{Less, Equal, Greater}
use Rattle.basis.proofs.MapLemmas.{is_sorted-from_ordered, names_apart}
use Rattle.basis.specs.Sets.{Names, is_same_set}

-- ---- a search by halves

at_most_two : (r : Ordering) → ordering_index r ≤ 2
at_most_two Less = omega arith
at_most_two Equal = omega arith
at_most_two Greater = omega arith

module _ {K : Type 0} {R : K → K → Ordering} (o : IsTotalOrder R) (xs : List K) (sorted : IsStrictlySortedBy R xs) (q : K) where
  higher : (x y : K) → R x y ≡ Less → ordering_index (R x q) ≤ ordering_index (R y q)
  higher x y less = by (R y q) refl
    where
      by : (r : Ordering) → R y q ≡ r → ordering_index (R x q) ≤ ordering_index (R y q)
      by Less e = omega (arith, ap ordering_index (o.trans x y q less e))
      by Equal e = omega (arith, ap ordering_index (sym (alike_right o y q x e) ∙ less))
      by Greater e = omega (arith, ap ordering_index e, at_most_two (R x q))

  -- the comparisons with q rise along the list, as a search by halves asks
  rises : IsNonDecreasingBy (λ y. ordering_index (R y q)) xs
  rises i j d le lt =
      let apart : i < j → ordering_index (R (get_or xs i d) q) ≤ ordering_index (R (get_or xs j d) q) = λ below. higher _ _ (Less-from_sorted R xs i j d sorted below lt) in
      let same : i ≡ j → ordering_index (R (get_or xs i d) q) ≡ ordering_index (R (get_or xs j d) q) = λ e. ap (λ k. ordering_index (R (get_or xs k d) q)) e in
      grind (arith, apart, same)

  turned : (x : K) (r : Ordering) → R x q ≡ r → eq_by_cmp R q x ≡ is_eq (ordering_reverse r)
  turned x r e = ap is_eq (o.antisymm q x ∙ ap ordering_reverse e)

  -- it finds what the list has
  pub searched : (r : Result ℕ ℕ) → IsSearchInRange r (length xs) → IsBinarySearchResult (λ y. R y q) xs r → is_ok r ≡ list_any (eq_by_cmp R q) xs
  searched (Ok i) bound equal = sym (list_any_at (eq_by_cmp R q) xs i q bound (turned (get_or xs i q) Equal (equal q)))
  searched (Err i) bound parted = sym (list_any_none (eq_by_cmp R q) xs (λ k d lt.
      let below : k < i → eq_by_cmp R q (get_or xs k d) ≡ false = λ h. turned (get_or xs k d) Less ((parted rises).0 k d (omega arith) h) in
      let above : i ≤ k → eq_by_cmp R q (get_or xs k d) ≡ false = λ h. turned (get_or xs k d) Greater ((parted rises).1 k d h lt) in
      grind (arith, below, above)))

-- ---- a list with its doubles dropped

or_twice : (a b : Bool) → (a || b) ≡ (a || (a || b))
or_twice true b = refl
or_twice false b = refl

module _ {K : Type 0} (p : K → Bool) (E : K → K → Bool) (equal : (x y : K) → E x y ≡ true → x ≡ y) where
  list_any-dedup_from : (k : K) (xs : List K) → list_any p (dedup_from E k xs) ≡ (p k || list_any p xs)
  list_any-dedup_from k [] = refl
  list_any-dedup_from k (x ∷ xs) = elim (E x k) as (λ b. E x k ≡ b → list_any p (cond b (dedup_from E k xs) (k ∷ dedup_from E x xs)) ≡ (p k || (p x || list_any p xs))) [
    | true ↦ λ same. list_any-dedup_from k xs ∙ or_twice (p k) (list_any p xs) ∙ ap (λ y. p k || (p y || list_any p xs)) (sym (equal x k same))
    | false ↦ λ apart. ap (λ b. p k || b) (list_any-dedup_from x xs)
  ] refl

  list_any-dedup : (xs : List K) → list_any p (dedup E xs) ≡ list_any p xs
  list_any-dedup [] = refl
  list_any-dedup (x ∷ xs) = list_any-dedup_from x xs

-- order and doubles make no difference to the set
pub from_list-dedup : (xs zs : List (List ℕ)) → IsPermutation xs zs → from_list {R = slice_cmp nat_cmp} (dedup bytes_eq zs) ≡ from_list xs
from_list-dedup xs zs moved = same_set nat_list_cmp_total names_apart _ _ (λ q.
    contains-from_list nat_list_cmp_total (dedup bytes_eq zs) q
    ∙ list_any-dedup (eq_by_cmp (slice_cmp nat_cmp) q) bytes_eq (λ x y e. (bytes_eq-Decides x y).0 e) zs
    ∙ sym (list_any-IsPermutation (eq_by_cmp (slice_cmp nat_cmp) q) xs zs moved)
    ∙ sym (contains-from_list nat_list_cmp_total xs q))

-- what a search in a list that rises finds is what the set has
pub contains_named : (ks : List (List ℕ)) → IsStrictlySortedBy (slice_cmp nat_cmp) ks → (q : List ℕ) (r : Result ℕ ℕ) → IsSearchInRange r (length ks) → IsBinarySearchResult (λ y. slice_cmp nat_cmp y q) ks r → is_ok r ≡ contains (from_list {R = slice_cmp nat_cmp} ks) q
contains_named ks sorted q r bound found = searched nat_list_cmp_total ks sorted q r bound found ∙ sym (contains-from_list nat_list_cmp_total ks q)

-- ---- two sets

pub same_set-Decides : (a b : Names) → Decides (is_same_set a b) (a ≡ b)
same_set-Decides a b = Decides-like (is_same_set a b)
    (λ within. same_set nat_list_cmp_total names_apart a b (λ q. both_ways (contains a q) (contains b q) (within.0 q) (within.1 q)))
    (λ e. (λ q has. ap (λ (s : Names). contains s q) (sym e) ∙ has, λ q has. ap (λ (s : Names). contains s q) e ∙ has))
    (Decides-and _ _ (is_subset-contains nat_list_cmp_total a b, contains-is_subset nat_list_cmp_total a b) (is_subset-contains nat_list_cmp_total b a, contains-is_subset nat_list_cmp_total b a))

marked : List (List ℕ) → List (List ℕ × Unit {0})
marked ks = map (λ k. (k, tt)) ks

names_of-marked : (ks : List (List ℕ)) → map (λ (e : List ℕ × Unit {0}). e.0) (marked ks) ≡ ks
unfolding marked
names_of-marked [] = refl
names_of-marked (k ∷ ks) = ap (λ rest. k ∷ rest) (names_of-marked ks)

one_mark : (a b : Option (Unit {0})) → is_some a ≡ is_some b → a ≡ b
one_mark None None e = refl
one_mark None (Some u) e = absurd cc
one_mark (Some t) None e = absurd cc
one_mark (Some t) (Some u) e = refl

found-marked : (ks : List (List ℕ)) (q : List ℕ) → is_some (find (slice_cmp nat_cmp) q (marked ks)) ≡ contains (from_list {R = slice_cmp nat_cmp} ks) q
found-marked ks q =
    is_some-find (slice_cmp nat_cmp) q (marked ks)
    ∙ ap (list_any (eq_by_cmp (slice_cmp nat_cmp) q)) (names_of-marked ks)
    ∙ sym (contains-from_list nat_list_cmp_total ks q)

-- lists that rise and make one set are one list
same_list : (xs ys : List (List ℕ)) → IsStrictlySortedBy (slice_cmp nat_cmp) xs → IsStrictlySortedBy (slice_cmp nat_cmp) ys → from_list {R = slice_cmp nat_cmp} xs ≡ from_list ys → xs ≡ ys
same_list xs ys xs_rise ys_rise e =
    let rising = λ (ks : List (List ℕ)) (rise : IsStrictlySortedBy (slice_cmp nat_cmp) ks). is_sorted-from_ordered (slice_cmp nat_cmp) (marked ks) (subst (IsStrictlySortedBy (slice_cmp nat_cmp)) (sym (names_of-marked ks)) rise) in
    let entries : marked xs ≡ marked ys = same_entries (slice_cmp nat_cmp) nat_list_cmp_total names_apart (marked xs) (marked ys) (rising xs xs_rise) (rising ys ys_rise) (λ q. one_mark _ _ (found-marked xs q ∙ ap (λ (s : Names). contains s q) e ∙ sym (found-marked ys q))) in
    sym (names_of-marked xs) ∙ ap (map (λ (e : List ℕ × Unit {0}). e.0)) entries ∙ names_of-marked ys

-- so they are compared as lists
pub is_same_named : (xs ys : List (List ℕ)) (r : Bool) → IsStrictlySortedBy (slice_cmp nat_cmp) xs → IsStrictlySortedBy (slice_cmp nat_cmp) ys → Decides r (xs ≡ ys) → r ≡ is_same_set (from_list {R = slice_cmp nat_cmp} xs) (from_list ys)
is_same_named xs ys r xs_rise ys_rise decides = same_from_decides r _ decides
    (Decides-like _ (same_list xs ys xs_rise ys_rise) (λ e. ap (λ ks. from_list {R = slice_cmp nat_cmp} ks) e) (same_set-Decides (from_list xs) (from_list ys)))
