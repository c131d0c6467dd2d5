-- What one entry gives, apart from the others.
use Rattle.std.proofs.Common.{◌≡◌, Bool, true, false, cond, not, T, subst, List, [], ◌∷◌, ◌++◌, Option, Some, None, refl, sym, ap, ◌∙◌}
use Rattle.std.specs.{Prelude.fold, declared.cmp.Ordering.{Ordering, TheVariants.{Less, Equal, Greater}}}
use Rattle.std.specs.Cmp.{IsTotalOrder, Equal-is, tied_itself}
use Rattle.std.specs.FinMap.{FinMap, is_sorted, entries_sorted, find, entries, get, get-entries, insert, remove, get-insert, get-remove, same_map, IsAntisymmetric}
use Rattle.std.specs.{FinMap.Entries.{below_all, where_key, find-where_key, is_sorted-where_key, same_entries}, Option.option_map_or}
use Rattle.std.specs.Ordering.{eq_by_cmp, is_lt, is_eq}
use Rattle.basis.specs.Sweeps.{kept_list, kept, given_list, given}
use Rattle.basis.proofs.{SweepLaws.{fold_append, swap, entries-kept}, MapLemmas.{both-first, both-second}}

less : (o : Ordering) → T (is_lt o) → is_eq o ≡ false
less o p = elim o as (λ o. T (is_lt o) → is_eq o ≡ false) [ Less ↦ λ p. refl | Equal ↦ λ p. absurd p | Greater ↦ λ p. absurd p ] p

module _ {K : Type 0} (R : K → K → Ordering) where
  abbrev other : K → K → Bool
  other k x = not (eq_by_cmp R k x)

  module _ (o : IsTotalOrder R) (same : IsAntisymmetric R) where
    pub tied : (x y : K) → eq_by_cmp R x y ≡ true → x ≡ y
    tied x y e = same x y ((Equal-is (R x y)).0 e)

    pub itself : (x : K) → eq_by_cmp R x x ≡ true
    itself x = ap is_eq (tied_itself o x)

module _ {K X : Type 0} (R : K → K → Ordering) where
  where_below : (k : K) (es : List (K × X)) → T (below_all R k es) → where_key R (other R k) es ≡ es
  where_below k [] h = refl
  where_below k (e ∷ es) h = ap (λ b. cond (not b) (e ∷ where_key R (other R k) es) (where_key R (other R k) es)) (less (R k e.0) (both-first _ _ h)) ∙ ap (λ (l : List (K × X)). e ∷ l) (where_below k es (both-second _ _ h))

  pub missing : (k : K) (es : List (K × X)) → T (below_all R k es) → find R k es ≡ None
  missing k [] h = refl
  missing k (e ∷ es) h = ap (λ b. cond b (Some e.1) (find R k es)) (less (R k e.0) (both-first _ _ h)) ∙ missing k es (both-second _ _ h)

  module _ (o : IsTotalOrder R) (same : IsAntisymmetric R) where
    entries-remove : (m : FinMap R X) (k : K) → entries (remove m k) ≡ where_key R (other R k) (entries m)
    entries-remove m k = same_entries R o same _ _ (entries_sorted (remove m k)) (is_sorted-where_key R (other R k) (entries m) (entries_sorted m)) (λ q.
        sym (get-entries (remove m k) q) ∙ get-remove o m k q ∙ ap (cond (eq_by_cmp R q k) None) (get-entries m q)
        ∙ turned (eq_by_cmp R q k) (eq_by_cmp R k q) (find R q (entries m)) (turns q k)
        ∙ sym (find-where_key R (other R k) q (λ x t. ap (other R k) (sym (same q x t))) (entries m)))
      where
        turned : (a b : Bool) (x : Option X) → a ≡ b → cond a None x ≡ cond (not b) x None
        turned true true x e = refl
        turned false false x e = refl
        turned true false x e = absurd (subst T e tt)
        turned false true x e = absurd (subst T (sym e) tt)

        once : (q k : K) (b : Bool) → eq_by_cmp R q k ≡ b → (c : Bool) → eq_by_cmp R k q ≡ c → b ≡ c
        once q k true e true d = refl
        once q k false e false d = refl
        once q k true e false d = sym (itself R o same k) ∙ ap (λ (x : K). eq_by_cmp R k x) (sym (tied R o same q k e)) ∙ d
        once q k false e true d = sym e ∙ ap (λ (x : K). eq_by_cmp R q x) (tied R o same k q d) ∙ itself R o same q

        turns : (q k : K) → eq_by_cmp R q k ≡ eq_by_cmp R k q
        turns q k = once q k _ refl _ refl

    module _ {A G : Type 0} (credit : A → G → A) (comm : (a : A) (g h : G) → credit (credit a g) h ≡ credit (credit a h) g) (g : K → X → List G) where
      pulled-step : (k : K) (e : K × X) (es : List (K × X)) (b : Bool) → eq_by_cmp R k e.0 ≡ b → T (below_all R e.0 es)
          → ((a : A) → fold credit a (given_list g es) ≡ fold credit (fold credit a (option_map_or (g k) (find R k es) [])) (given_list g (where_key R (other R k) es)))
          → (a : A) → fold credit a (g e.0 e.1 ++ given_list g es) ≡ fold credit (fold credit a (option_map_or (g k) (cond b (Some e.1) (find R k es)) [])) (given_list g (cond (not b) (e ∷ where_key R (other R k) es) (where_key R (other R k) es)))
      pulled-step k e es true t below rest a = fold_append credit a (g e.0 e.1) (given_list g es)
          ∙ ap (λ (x : K). fold credit (fold credit a (g x e.1)) (given_list g es)) (sym (tied R o same k e.0 t))
          ∙ ap (λ (l : List (K × X)). fold credit (fold credit a (g k e.1)) (given_list g l)) (sym (where_below k es (subst (λ (x : K). T (below_all R x es)) (sym (tied R o same k e.0 t)) below)))
      pulled-step k e es false t below rest a = fold_append credit a (g e.0 e.1) (given_list g es)
          ∙ rest (fold credit a (g e.0 e.1))
          ∙ ap (λ (b : A). fold credit b (given_list g (where_key R (other R k) es))) (swap credit comm a (g e.0 e.1) (option_map_or (g k) (find R k es) []))
          ∙ sym (fold_append credit (fold credit a (option_map_or (g k) (find R k es) [])) (g e.0 e.1) (given_list g (where_key R (other R k) es)))

      pulled : (k : K) (es : List (K × X)) → T (is_sorted R es) → (a : A) → fold credit a (given_list g es) ≡ fold credit (fold credit a (option_map_or (g k) (find R k es) [])) (given_list g (where_key R (other R k) es))
      pulled k [] h a = refl
      pulled k (e ∷ es) h a = pulled-step k e es (eq_by_cmp R k e.0) refl (both-first _ _ h) (pulled k es (both-second _ _ h)) a

      -- what a map gives is what one of its values gives, and what the others do
      pub given_apart : (m : FinMap R X) (k : K) (a : A) → fold credit a (given g m) ≡ fold credit (fold credit a (option_map_or (g k) (get m k) [])) (given g (remove m k))
      given_apart m k a = pulled k (entries m) (entries_sorted m) a
          ∙ ap (λ (x : Option X). fold credit (fold credit a (option_map_or (g k) x [])) (given_list g (where_key R (other R k) (entries m)))) (sym (get-entries m k))
          ∙ ap (λ (l : List (K × X)). fold credit (fold credit a (option_map_or (g k) (get m k) [])) (given_list g l)) (sym (entries-remove m k))

      over : (b : Bool) (x y : Option X) → cond b None (cond b x y) ≡ cond b None y
      over true x y = refl
      over false x y = refl

      remove_insert : (m : FinMap R X) (k : K) (v : X) → remove (insert m k v) k ≡ remove m k
      remove_insert m k v = same_map o same _ _ (λ q. get-remove o (insert m k v) k q ∙ ap (cond (eq_by_cmp R q k) None) (get-insert o m k v q) ∙ over (eq_by_cmp R q k) (Some v) (get m q) ∙ sym (get-remove o m k q))

      at_itself : (b : Bool) (x y : Option X) → b ≡ true → cond b x y ≡ x
      at_itself true x y e = refl
      at_itself false x y e = absurd (subst T (sym e) tt)

      pub given_insert : (m : FinMap R X) (k : K) (v : X) (a : A) → fold credit a (given g (insert m k v)) ≡ fold credit (fold credit a (g k v)) (given g (remove m k))
      given_insert m k v a = given_apart (insert m k v) k a
          ∙ ap (λ (x : Option X). fold credit (fold credit a (option_map_or (g k) x [])) (given g (remove (insert m k v) k))) (get-insert o m k v k ∙ at_itself (eq_by_cmp R k k) (Some v) (get m k) (itself R o same k))
          ∙ ap (λ (n : FinMap R X). fold credit (fold credit a (g k v)) (given g n)) (remove_insert m k v)

      -- where only the values at one key give something
      abbrev only : K → K → X → List G
      only k x v = cond (eq_by_cmp R k x) (g x v) []

    module _ {A G : Type 0} (credit : A → G → A) (comm : (a : A) (g h : G) → credit (credit a g) h ≡ credit (credit a h) g) (g : K → X → List G) where
      silent-step : (k : K) (e : K × X) (l : List (K × X)) (b : Bool) → eq_by_cmp R k e.0 ≡ b → given_list (λ x v. cond (eq_by_cmp R k x) (g x v) []) l ≡ [] → given_list (λ x v. cond (eq_by_cmp R k x) (g x v) []) (cond (not b) (e ∷ l) l) ≡ []
      silent-step k e l true t rest = rest
      silent-step k e l false t rest = ap (λ b. cond b (g e.0 e.1) [] ++ given_list (λ x v. cond (eq_by_cmp R k x) (g x v) []) l) t ∙ rest

      silent : (k : K) (es : List (K × X)) → given_list (λ x v. cond (eq_by_cmp R k x) (g x v) []) (where_key R (other R k) es) ≡ []
      silent k [] = refl
      silent k (e ∷ es) = silent-step k e _ (eq_by_cmp R k e.0) refl (silent k es)

      here : (k : K) (x : Option X) (b : Bool) → b ≡ true → option_map_or (λ v. cond b (g k v) []) x [] ≡ option_map_or (g k) x []
      here k x true e = refl
      here k x false e = absurd (subst T (sym e) tt)

      pub given_only : (m : FinMap R X) (k : K) (a : A) → fold credit a (given (λ x v. cond (eq_by_cmp R k x) (g x v) []) m) ≡ fold credit a (option_map_or (g k) (get m k) [])
      given_only m k a = given_apart credit comm (λ x v. cond (eq_by_cmp R k x) (g x v) []) m k a
          ∙ ap (λ (l : List (K × X)). fold credit (fold credit a (option_map_or (λ v. cond (eq_by_cmp R k k) (g k v) []) (get m k) [])) (given_list (λ x v. cond (eq_by_cmp R k x) (g x v) []) l)) (entries-remove m k)
          ∙ ap (λ (l : List G). fold credit (fold credit a (option_map_or (λ v. cond (eq_by_cmp R k k) (g k v) []) (get m k) [])) l) (silent k (entries m))
          ∙ ap (λ (l : List G). fold credit a l) (here k (get m k) (eq_by_cmp R k k) (itself R o same k))

    -- ---- what is left, key by key

    module _ (f : K → X → Option X) where
      find-step : (q k : K) (x : X) (F : List (K × X)) (v : Option X) (b : Bool) (r y : Option X) → f k x ≡ v → eq_by_cmp R q k ≡ b → find R q F ≡ option_map_or (f q) r None → (b ≡ true → find R q F ≡ None)
          → find R q (option_map_or (λ y. (k, y) ∷ F) v F) ≡ option_map_or (f q) (cond b (Some x) r) None
      find-step q k x F None true r y e t rest none = none refl ∙ sym (ap (λ (z : K). f z x) (tied R o same q k t) ∙ e)
      find-step q k x F (Some w) true r y e t rest none = ap (λ b. cond b (Some w) (find R q F)) t ∙ sym (ap (λ (z : K). f z x) (tied R o same q k t) ∙ e)
      find-step q k x F None false r y e t rest none = rest
      find-step q k x F (Some w) false r y e t rest none = ap (λ b. cond b (Some w) (find R q F)) t ∙ rest

      find-kept : (q : K) (es : List (K × X)) → T (is_sorted R es) → find R q (kept_list f es) ≡ option_map_or (f q) (find R q es) None
      find-kept q [] h = refl
      find-kept q (e ∷ es) h =
          let rest = find-kept q es (both-second _ _ h) in
          find-step q e.0 e.1 (kept_list f es) (f e.0 e.1) (eq_by_cmp R q e.0) (find R q es) None refl refl rest (λ t. rest ∙ ap (λ (x : Option X). option_map_or (f q) x None) (missing q es (subst (λ (z : K). T (below_all R z es)) (sym (tied R o same q e.0 t)) (both-first _ _ h))))

      pub get-kept : (m : FinMap R X) (q : K) → get (kept f m) q ≡ option_map_or (f q) (get m q) None
      get-kept m q = get-entries (kept f m) q ∙ ap (λ (l : List (K × X)). find R q l) (entries-kept R f o same m) ∙ find-kept q (entries m) (entries_sorted m) ∙ ap (λ (x : Option X). option_map_or (f q) x None) (sym (get-entries m q))
