-- How many values of a map pass, once something else stands under a name.
use Rattle.std.proofs.Common.{◌≡◌, ℕ, suc, ◌+◌, Bool, true, false, cond, List, [], ◌∷◌, ◌++◌, map, filter, length, Option, Some, None, refl, sym, ap, ◌∙◌, arith}
use Rattle.std.specs.Prelude.{fold}
use Rattle.sqlderived.proofs.Words.{counts_one, counts_where, entries, FinMap, get, insert, IsAntisymmetric, IsTotalOrder, nat_cmp}
use Rattle.sqlderived.proofs.Words.{nat_cmp-IsAntisymmetric, nat_list_cmp_total, option_map_or, Ordering, remove, slice_cmp}
use Rattle.sqlderived.proofs.Words.{slice_cmp-IsAntisymmetric, values}
use Rattle.basis.specs.Sweeps.{given_list}
use Rattle.basis.proofs.ApartLaws.{given_apart, given_insert}
use Rattle.sqlobjects.specs.inner.Changes.{with_named}

abbrev ticks : Bool → List Bool
ticks b = cond b (true ∷ []) []

abbrev tick : ℕ → Bool → ℕ
tick n b = suc n

one : (b : Bool) → fold tick 0 (ticks b) ≡ counts_one b
one true = refl
one false = refl

abbrev pub count : {X : Type 0} → (X → Bool) → List X → ℕ
count p xs = length (filter p xs)

module _ {K X : Type 0} (p : X → Bool) where
  abbrev each : K → X → List Bool
  each k x = ticks (p x)

  abbrev second : List (K × X) → List X
  second es = map (λ (e : K × X). e.1) es

  ticked : (n : ℕ) (es : List (K × X)) → fold tick n (given_list each es) ≡ count p (second es) + n
  ticked n [] = omega arith
  ticked n (e ∷ es) = go (p e.1) (λ m. ticked m es)
    where
      go : (b : Bool) → ((m : ℕ) → fold tick m (given_list each es) ≡ count p (second es) + m)
          → fold tick n (ticks b ++ given_list each es) ≡ length (cond b (e.1 ∷ filter p (second es)) (filter p (second es))) + n
      go true later = later (suc n) ∙ omega arith
      go false later = later n

  here : (k : K) (it : Option X) → fold tick 0 (option_map_or (each k) it []) ≡ counts_where p it
  here k None = refl
  here k (Some x) = one (p x)

  module _ (R : K → K → Ordering) (o : IsTotalOrder R) (same : IsAntisymmetric R) where
    -- those that pass are the value under a name, and others
    apart : (m : FinMap R X) (k : K) → count p (values m) + 0 ≡ count p (values (remove m k)) + counts_where p (get m k)
    apart m k =
        sym (ticked 0 (entries m)) ∙ given_apart R o same tick (λ a g h. refl) each m k 0
        ∙ ticked (fold tick 0 (option_map_or (each k) (get m k) [])) (entries (remove m k)) ∙ ap (λ n. count p (values (remove m k)) + n) (here k (get m k))

    added : (m : FinMap R X) (k : K) (x : X) → count p (values (insert m k x)) + 0 ≡ count p (values (remove m k)) + counts_one (p x)
    added m k x =
        sym (ticked 0 (entries (insert m k x))) ∙ given_insert R o same tick (λ a g h. refl) each m k x 0
        ∙ ticked (fold tick 0 (each k x)) (entries (remove m k)) ∙ ap (λ n. count p (values (remove m k)) + n) (one (p x))

    pub count-insert : (m : FinMap R X) (k : K) (x : X) → count p (values (insert m k x)) + counts_where p (get m k) ≡ count p (values m) + counts_one (p x)
    count-insert m k x = omega (arith, apart m k, added m k x)

    pub count-remove : (m : FinMap R X) (k : K) → count p (values (remove m k)) + counts_where p (get m k) ≡ count p (values m)
    count-remove m k = omega (arith, apart m k)

-- of what stands under names
module _ {X : Type 0} (p : X → Bool) where
  pub count-put : (m : FinMap (slice_cmp nat_cmp) X) (name : List ℕ) (it : Option X) → count p (values (with_named m name it)) + counts_where p (get m name) ≡ count p (values m) + counts_where p it
  count-put m name (Some x) = count-insert p (slice_cmp nat_cmp) nat_list_cmp_total (slice_cmp-IsAntisymmetric nat_cmp-IsAntisymmetric) m name x
  count-put m name None = count-remove p (slice_cmp nat_cmp) nat_list_cmp_total (slice_cmp-IsAntisymmetric nat_cmp-IsAntisymmetric) m name ∙ omega arith
