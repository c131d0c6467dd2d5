-- What stands at a name after a map by names was changed.
use Rattle.std.proofs.Common.{◌≡◌, ◌≢◌, ◌⊎◌, inl, inr, ⊎_elim, ℕ, Bool, true, false, cond, List, map, Option, Some, None, IsSome, is_some, option_map, refl, sym, ap, ◌∙◌, length, filter, ◌≤◌, arith}
use Rattle.std.proofs.Common.{subst₂}
use Rattle.std.specs.FinMap.{keys, values, get-remove}
use Rattle.decisions.proofs.Words.{cond_both, entries, eq_by_cmp, eq_by_cmp_equiv, Equal-is, false_from_ne_true, FinMap, get, get-insert, get-map_values, insert, is_empty}
use Rattle.{basis.proofs.{EntryLaws.among_values, MapLemmas.entries-map_values}, std.proofs.lemmas.Simd.map-map}
use Rattle.decisions.proofs.{OrderedSetLemmas.some-kept, Words.nat_tests}
use Rattle.decisions.proofs.Words.{list_any, map_values, names_apart, nat_cmp, nat_list_cmp_total, remove, same_Some, slice_cmp}

-- where no value is, there is none
pub none-is : {X : Type 0} (o : Option X) → is_some o ≡ false → o ≡ None
none-is None e = refl
none-is (Some x) e = absurd (let never : true ≡ false = e in cc)

-- what is some value is there
pub is-there : {X : Type 0} (o : Option X) (x : X) → o ≡ Some x → IsSome o
is-there o x e = ap is_some e

-- what is there is some value
pub there-is : {X : Type 0} (o : Option X) → IsSome o → (x : X) × (o ≡ Some x)
there-is None e = absurd cc
there-is (Some x) e = (x, refl)

pub same_name : (n k : List ℕ) → eq_by_cmp (slice_cmp nat_cmp) n k ≡ true → n ≡ k
same_name n k e = names_apart n k ((Equal-is (slice_cmp nat_cmp n k)).0 e)

itself : (k : List ℕ) → eq_by_cmp (slice_cmp nat_cmp) k k ≡ true
itself k = (eq_by_cmp_equiv nat_list_cmp_total).refl k

pub other_name : (n k : List ℕ) → eq_by_cmp (slice_cmp nat_cmp) n k ≡ false → n ≢ k
other_name n k other same = let never : true ≡ false = sym (itself k) ∙ ap (λ (q : List ℕ). eq_by_cmp (slice_cmp nat_cmp) q k) (sym same) ∙ other in cc

module _ {X : Type 0} (m : FinMap (slice_cmp nat_cmp) X) (k : List ℕ) where
  -- ---- a value is put at a name

  -- it is there, or something else at another name
  pub put-either : (v : X) (n : List ℕ) (x : X) → get (insert m k v) n ≡ Some x → ((n ≡ k) × (v ≡ x)) ⊎ ((n ≢ k) × (get m n ≡ Some x))
  put-either v n x e = cond_both (eq_by_cmp (slice_cmp nat_cmp) n k) (Some v) (get m n)
      (λ o. o ≡ Some x → ((n ≡ k) × (v ≡ x)) ⊎ ((n ≢ k) × (get m n ≡ Some x))) (λ same e. inl (same_name n k same, same_Some v x e))
      (λ other e. inr (other_name n k other, e)) (sym (get-insert nat_list_cmp_total m k v n) ∙ e)

  pub put-cases : (v : X) (n : List ℕ) (x : X) → get (insert m k v) n ≡ Some x → ((n ≡ k) × (v ≡ x)) ⊎ (get m n ≡ Some x)
  put-cases v n x e = ⊎_elim (λ put. inl put) (λ before. inr before.1) (put-either v n x e)

  pub put-is : (v : X) → get (insert m k v) k ≡ Some v
  put-is v = get-insert nat_list_cmp_total m k v k ∙ ap (λ (b : Bool). cond b (Some v) (get m k)) (itself k)

  -- what was there is there still
  pub put-keeps : (v : X) (n : List ℕ) → IsSome (get m n) → IsSome (get (insert m k v) n)
  put-keeps v n there = ap is_some (get-insert nat_list_cmp_total m k v n)
      ∙ cond_both (eq_by_cmp (slice_cmp nat_cmp) n k) (Some v) (get m n) IsSome (λ e. refl) (λ e. there)

  -- what is there was put, or was there
  pub put-there : (v : X) (n : List ℕ) → IsSome (get (insert m k v) n) → (n ≡ k) ⊎ IsSome (get m n)
  put-there v n there =
      let found = there-is (get (insert m k v) n) there in
      ⊎_elim (λ put. inl put.0) (λ before. inr (is-there (get m n) found.0 before)) (put-cases v n found.0 found.1)

  -- ---- a name is taken away

  pub drop-cases : (n : List ℕ) (x : X) → get (remove m k) n ≡ Some x → (n ≢ k) × (get m n ≡ Some x)
  drop-cases n x e = cond_both (eq_by_cmp (slice_cmp nat_cmp) n k) None (get m n)
      (λ o. o ≡ Some x → (n ≢ k) × (get m n ≡ Some x)) (λ same e. absurd cc)
      (λ other e. (other_name n k other, e))
      (sym (get-remove nat_list_cmp_total m k n) ∙ e)

  pub drop-keeps : (n : List ℕ) → n ≢ k → IsSome (get m n) → IsSome (get (remove m k) n)
  drop-keeps n other there = ap is_some (get-remove nat_list_cmp_total m k n)
      ∙ cond_both (eq_by_cmp (slice_cmp nat_cmp) n k) None (get m n) IsSome
      (λ same. absurd (other (same_name n k same))) (λ same. there)

  pub drop-there : (n : List ℕ) → IsSome (get (remove m k) n) → IsSome (get m n)
  drop-there n there =
      let found = there-is (get (remove m k) n) there in
      is-there (get m n) found.0 (drop-cases n found.0 found.1).1

-- what is so of all at their names and of what is put
pub at-put : {X : Type 0} (P : List ℕ → X → Type 0) (m : FinMap (slice_cmp nat_cmp) X) (k : List ℕ) (v : X) → P k v
    → ((n : List ℕ) (x : X) → get m n ≡ Some x → P n x) → (n : List ℕ) (x : X) → get (insert m k v) n ≡ Some x → P n x
at-put P m k v new old n x at = ⊎_elim (λ put. subst₂ P (sym put.0) put.1 new) (λ before. old n x before) (put-cases m k v n x at)

-- ---- each value is made anew

module _ {X : Type 0} (f : X → X) (m : FinMap (slice_cmp nat_cmp) X) (n : List ℕ) where
  pub remade-get : get (map_values (λ name. f) m) n ≡ option_map f (get m n)
  remade-get = get-map_values (slice_cmp nat_cmp) nat_list_cmp_total names_apart (λ name. f) m n

  pub remade-cases : (y : X) → get (map_values (λ name. f) m) n ≡ Some y → (x : X) × (get m n ≡ Some x) × (f x ≡ y)
  remade-cases y e = by (get m n) refl (sym remade-get ∙ e)
    where
      by : (o : Option X) → get m n ≡ o → option_map f o ≡ Some y → (x : X) × (get m n ≡ Some x) × (f x ≡ y)
      by None at e = absurd cc
      by (Some x) at e = (x, at, same_Some (f x) y e)

  pub remade-keeps : IsSome (get m n) → IsSome (get (map_values (λ name. f) m) n)
  remade-keeps there = let found = there-is (get m n) there in ap is_some (remade-get ∙ ap (option_map f) found.1)

-- ---- a test of all values

-- what none of a map's values passes, no value passes that stands at a name
pub value-fails : {X : Type 0} (test : X → Bool) (m : FinMap (slice_cmp nat_cmp) X) (n : List ℕ) (x : X) → get m n ≡ Some x → list_any test (values m) ≡ false → test x ≡ false
value-fails test m n x e none = false_from_ne_true (test x) (λ passes. let never : true ≡ false = sym (among_values (slice_cmp nat_cmp) test m n x passes e) ∙ none in cc)

-- ---- a test of all names

-- what no name of a map passes, no name passes at which something stands
pub name-fails : {X : Type 0} (test : List ℕ → Bool) (m : FinMap (slice_cmp nat_cmp) X) (n : List ℕ) → IsSome (get m n) → is_empty (filter test (keys m)) ≡ true → test n ≡ false
name-fails {X} test m n there none = false_from_ne_true (test n) (λ passes.
    let found = there-is (get m n) there in
    let named : List ℕ → X → List ℕ = λ name x. name in
    let some = among_values (slice_cmp nat_cmp) test (map_values named m) n n passes (get-map_values (slice_cmp nat_cmp) nat_list_cmp_total names_apart named m n ∙ ap (option_map (named n)) found.1) in
    let same : values (map_values named m) ≡ keys m = ap (map (λ (e : List ℕ × List ℕ). e.1)) (entries-map_values (slice_cmp nat_cmp) named nat_list_cmp_total names_apart m)
    ∙ map-map (λ (e : List ℕ × List ℕ). e.1) (λ (e : List ℕ × X). (e.0, e.0)) (entries m) in
    let more : 1 ≤ length (filter test (keys m)) = some-kept test (keys m) (ap (list_any test) (sym same) ∙ some) in
    grind (arith, nat_tests, more, none))
