-- What holds of each value of a map holds of each entry.
use Rattle.std.proofs.Common.{◌≡◌, Bool, true, false, cond, ◌||◌, T, subst, List, [], ◌∷◌, ◌++◌, map, Option, Some, None, refl, sym, ap, ◌∙◌}
use Rattle.std.specs.{Prelude.⊤, declared.cmp.Ordering.Ordering, Cmp.IsTotalOrder}
use Rattle.std.specs.FinMap.{FinMap, is_sorted, entries_sorted, find, entries, get, get-entries, values, from_entries, IsAntisymmetric}
use Rattle.std.specs.{FinMap.Entries.below_all, List.list_any, Option.option_map_or, Ordering.eq_by_cmp}
use Rattle.basis.specs.Sweeps.{kept_list, kept, given_list, given}
use Rattle.basis.proofs.{ApartLaws.{tied, itself, missing}, MapLemmas.{both-first, both-second}}

abbrev pub Each : {K X : Type 0} → (K → X → Type 0) → List (K × X) → Type 0
Each P [] = ⊤
Each P (e ∷ es) = P e.0 e.1 × Each P es

pub not_none : {X A : Type 0} (x : X) → Some x ≡ None → A
not_none x e = absurd (subst (λ (o : Option _). T (option_map_or (λ y. true) o false)) e tt)

at_true : {X : Type 0} (b : Bool) (x y : X) → b ≡ true → cond b x y ≡ x
at_true true x y e = refl
at_true false x y e = absurd (subst T (sym e) tt)

module _ {K X : Type 0} (R : K → K → Ordering) (o : IsTotalOrder R) (same : IsAntisymmetric R) where
  later : (k : K) (x : X) (e : K × X) (es : List (K × X)) (b : Bool) → eq_by_cmp R k e.0 ≡ b → T (below_all R e.0 es) → find R k es ≡ Some x → cond b (Some e.1) (find R k es) ≡ Some x
  later k x e es false t below found = found
  later k x e es true t below found = not_none x (sym found ∙ missing R k es (subst (λ (j : K). T (below_all R j es)) (sym (tied R o same k e.0 t)) below))

  each_of : (P : K → X → Type 0) (es : List (K × X)) → T (is_sorted R es) → ((k : K) (x : X) → find R k es ≡ Some x → P k x) → Each P es
  each_of P [] h all = tt
  each_of P (e ∷ es) h all = (
    all e.0 e.1 (at_true (eq_by_cmp R e.0 e.0) (Some e.1) (find R e.0 es) (itself R o same e.0)),
    each_of P es (both-second _ _ h) (λ k x found. all k x (later k x e es (eq_by_cmp R k e.0) refl (both-first _ _ h) found)),
  )

  pub each_entry : (P : K → X → Type 0) (m : FinMap R X) → ((k : K) (x : X) → get m k ≡ Some x → P k x) → Each P (entries m)
  each_entry P m all = each_of P (entries m) (entries_sorted m) (λ k x found. all k x (get-entries m k ∙ found))

or_true : (a : Bool) → (a || true) ≡ true
or_true true = refl
or_true false = refl

-- a value that is found is among the values
module _ {K X : Type 0} (R : K → K → Ordering) (test : X → Bool) where
  among-step : (k : K) (x : X) (e : K × X) (es : List (K × X)) (b : Bool) → test x ≡ true → cond b (Some e.1) (find R k es) ≡ Some x → (find R k es ≡ Some x → list_any test (map (λ (f : K × X). f.1) es) ≡ true) → (test e.1 || list_any test (map (λ (f : K × X). f.1) es)) ≡ true
  among-step k x e es true h found rest = ap (λ b. b || list_any test (map (λ (f : K × X). f.1) es)) (ap (λ (o : Option X). option_map_or test o false) found ∙ h)
  among-step k x e es false h found rest = ap (λ b. test e.1 || b) (rest found) ∙ or_true (test e.1)

  among_list : (k : K) (x : X) (es : List (K × X)) → test x ≡ true → find R k es ≡ Some x → list_any test (map (λ (f : K × X). f.1) es) ≡ true
  among_list k x [] h found = not_none x (sym found)
  among_list k x (e ∷ es) h found = among-step k x e es (eq_by_cmp R k e.0) h found (among_list k x es h)

  pub among_values : (m : FinMap R X) (k : K) (x : X) → test x ≡ true → get m k ≡ Some x → list_any test (values m) ≡ true
  among_values m k x h found = among_list k x (entries m) h (sym (get-entries m k) ∙ found)

-- sweeps that agree at each entry are one
module _ {K X : Type 0} where
  kept_list-alike : (f g : K → X → Option X) (es : List (K × X)) → Each (λ k x. f k x ≡ g k x) es → kept_list f es ≡ kept_list g es
  kept_list-alike f g [] h = refl
  kept_list-alike f g (e ∷ es) h = λ i. option_map_or (λ y. (e.0, y) ∷ kept_list-alike f g es h.1 i) (h.0 i) (kept_list-alike f g es h.1 i)

  given_list-alike : {G : Type 0} (f g : K → X → List G) (es : List (K × X)) → Each (λ k x. f k x ≡ g k x) es → given_list f es ≡ given_list g es
  given_list-alike f g [] h = refl
  given_list-alike f g (e ∷ es) h = λ i. h.0 i ++ given_list-alike f g es h.1 i

module _ {K X : Type 0} (R : K → K → Ordering) (o : IsTotalOrder R) (same : IsAntisymmetric R) (m : FinMap R X) where
  pub kept-alike : (f g : K → X → Option X) → ((k : K) (x : X) → get m k ≡ Some x → f k x ≡ g k x) → kept f m ≡ kept g m
  unfolding kept
  kept-alike f g h = ap (λ (es : List (K × X)). from_entries {R = R} es) (kept_list-alike f g (entries m) (each_entry R o same (λ k x. f k x ≡ g k x) m h))

  pub given-alike : {G : Type 0} (f g : K → X → List G) → ((k : K) (x : X) → get m k ≡ Some x → f k x ≡ g k x) → given f m ≡ given g m
  given-alike f g h = given_list-alike f g (entries m) (each_entry R o same (λ k x. f k x ≡ g k x) m h)
