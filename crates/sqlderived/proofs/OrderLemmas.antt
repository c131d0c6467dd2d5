-- What is found due, in strict order, is decided by what is due.
use Rattle.std.proofs.Common.{◌≡◌, ◌⊎◌, inl, inr, List, [], ◌∷◌, Ordering, Less, Equal, Greater, refl, sym, ap, subst, ◌∙◌}
use Rattle.std.specs.{Prelude.⊤, BTreeSet.insert_key}
use Rattle.sqlderived.proofs.Words.{Has, IsAntisymmetric, IsTotalOrder, match_ordering, ordering_reverse}

module _ {K : Type 0} (R : K → K → Ordering) (o : IsTotalOrder R) (same : IsAntisymmetric R) where
  abbrev pub IsBelow : K → List K → Type 0
  IsBelow k ks = (q : K) → Has ks q → R k q ≡ Less

  -- each is below those behind it
  abbrev pub Rises : List K → Type 0
  Rises [] = ⊤
  Rises (k ∷ ks) = IsBelow k ks × Rises ks

  itself : (k : K) → R k k ≡ Less → ⊥
  itself k less = clash (R k k) less (o.antisymm k k)
    where
      clash : (r : Ordering) → r ≡ Less → r ≡ ordering_reverse r → ⊥
      clash Less e f = cc
      clash Equal e f = cc
      clash Greater e f = cc

  not-both : (k q : K) → R k q ≡ Less → R q k ≡ Less → ⊥
  not-both k q less more = itself k (o.trans k q k less more)

  -- ---- one more

  pub has-insert : (ks : List K) (k : K) → Has (insert_key R ks k) k
  has-insert [] k = inl refl
  has-insert (x ∷ xs) k = go (R k x) refl (has-insert xs k)
    where
      go : (r : Ordering) → R k x ≡ r → Has (insert_key R xs k) k → Has (match_ordering r (k ∷ x ∷ xs) (x ∷ xs) (x ∷ insert_key R xs k)) k
      go Less e more = inl refl
      go Equal e more = inl (same k x e)
      go Greater e more = inr more

  pub insert-keeps : (ks : List K) (k q : K) → Has ks q → Has (insert_key R ks k) q
  insert-keeps [] k q there = absurd there
  insert-keeps (x ∷ xs) k q there = go (R k x) there (insert-keeps xs k q)
    where
      go : (r : Ordering) → Has (x ∷ xs) q → (Has xs q → Has (insert_key R xs k) q) → Has (match_ordering r (k ∷ x ∷ xs) (x ∷ xs) (x ∷ insert_key R xs k)) q
      go Less there more = inr there
      go Equal there more = there
      go Greater (inl here) more = inl here
      go Greater (inr later) more = inr (more later)

  pub insert-from : (ks : List K) (k q : K) → Has (insert_key R ks k) q → Has ks q ⊎ (q ≡ k)
  insert-from [] k q (inl here) = inr here
  insert-from [] k q (inr later) = absurd later
  insert-from (x ∷ xs) k q there = go (R k x) there (insert-from xs k q)
    where
      behind : Has xs q ⊎ (q ≡ k) → Has (x ∷ xs) q ⊎ (q ≡ k)
      behind (inl before) = inl (inr before)
      behind (inr new) = inr new

      go : (r : Ordering) → Has (match_ordering r (k ∷ x ∷ xs) (x ∷ xs) (x ∷ insert_key R xs k)) q → (Has (insert_key R xs k) q → Has xs q ⊎ (q ≡ k)) → Has (x ∷ xs) q ⊎ (q ≡ k)
      go Less (inl new) more = inr new
      go Less (inr before) more = inl before
      go Equal before more = inl before
      go Greater (inl here) more = inl (inl here)
      go Greater (inr later) more = behind (more later)

  pub insert-rises : (ks : List K) (k : K) → Rises ks → Rises (insert_key R ks k)
  insert-rises [] k rise = (λ q there. absurd there, tt)
  insert-rises (x ∷ xs) k rise = go (R k x) refl (insert-rises xs k rise.1)
    where
      first : R k x ≡ Less → IsBelow k (x ∷ xs)
      first less q (inl here) = ap (R k) here ∙ less
      first less q (inr later) = o.trans k x q less (rise.0 q later)

      second : R x k ≡ Less → (q : K) → Has xs q ⊎ (q ≡ k) → R x q ≡ Less
      second less q (inl before) = rise.0 q before
      second less q (inr new) = ap (R x) new ∙ less

      go : (r : Ordering) → R k x ≡ r → Rises (insert_key R xs k) → Rises (match_ordering r (k ∷ x ∷ xs) (x ∷ xs) (x ∷ insert_key R xs k))
      go Less e more = (first e, rise)
      go Equal e more = rise
      go Greater e more = (λ q there. second (o.antisymm x k ∙ ap ordering_reverse e) q (insert-from xs k q there), more)

  -- ---- lists that have the same items are the same

  pub same-list : (ks qs : List K) → Rises ks → Rises qs → ((k : K) → Has ks k → Has qs k) → ((k : K) → Has qs k → Has ks k) → ks ≡ qs
  same-list [] [] rise other there back = refl
  same-list [] (q ∷ qs) rise other there back = absurd (back q (inl refl))
  same-list (k ∷ ks) [] rise other there back = absurd (there k (inl refl))
  same-list (k ∷ ks) (q ∷ qs) rise other there back =
      let first = heads (there k (inl refl)) (back q (inl refl)) in
      λ i. first i ∷ same-list ks qs rise.1 other.1
      (λ x has. rest k ks rise.0 q qs first x has (there x (inr has)))
      (λ x has. rest q qs other.0 k ks (sym first) x has (back x (inr has))) i
    where
      heads : Has (q ∷ qs) k → Has (k ∷ ks) q → k ≡ q
      heads (inl here) found = here
      heads (inr later) (inl here) = sym here
      heads (inr later) (inr other_later) = absurd (not-both k q (rise.0 q other_later) (other.0 k later))

      rest : (a : K) (as_ : List K) → IsBelow a as_ → (b : K) (bs : List K) → a ≡ b → (x : K) → Has as_ x → Has (b ∷ bs) x → Has bs x
      rest a as_ below b bs first x has (inl here) = absurd (itself a (subst (λ (y : K). R a y ≡ Less) (here ∙ sym first) (below x has)))
      rest a as_ below b bs first x has (inr later) = later
