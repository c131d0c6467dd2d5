-- What is left of those that wait.
use Rattle.std.proofs.Common.{◌≡◌, ℕ, ◌<◌, zero, suc, Bool, true, false, cond, Option, None, Some, List, [], ◌∷◌, ◌++◌, length, remove, IfSome, inl, inr, refl, sym, ap, subst, arith, append-nil, append_assoc}
use Rattle.std.proofs.lemmas.List.Elements.{All-nil, All-cons, All-append}
use Rattle.std.specs.List.{HoldsAt}
use Rattle.wires.specs.inner.Rooms.{AreLeft, IsFirst, LetsGoSilent, Seats, TakesFirst, left_at, taken_at}

module _ {W : Type 0} (Tells : W → Bool → Type 0) where
  pub left_same : (xs : List W) → AreLeft Tells xs xs
  left_same [] = refl
  left_same (x ∷ xs) = inl (xs, left_same xs, refl)

  -- one that is silent goes
  left_removed : (xs : List W) (i : ℕ) → i < length xs → HoldsAt (λ w. Tells w false) xs i → AreLeft Tells xs (remove xs i)
  left_removed [] i within silent = absurd (omega arith)
  left_removed (x ∷ xs) zero within silent = inr (silent x, left_same xs)
  left_removed (x ∷ xs) (suc i) within silent = inl (remove xs i, left_removed xs i (omega arith) (λ d. silent d), refl)

  left_by : (old new : List W) (place : Option ℕ) → IsFirst Tells false true old place → new ≡ left_at old place → AreLeft Tells old new
  left_by old new None h same = subst (λ (l : List W). AreLeft Tells old l) (sym same) (left_same old)
  left_by old new (Some i) h same = subst (λ (l : List W). AreLeft Tells old l) (sym same) (left_removed old i h.0 h.1)

  pub left_silent : (old new : List W) (is_one : Bool) → LetsGoSilent Tells old new is_one → AreLeft Tells old new
  left_silent old new is_one gone = left_by old new gone.1.0 gone.1.1 gone.1.3

  pub left_on : (xs ys zs : List W) → AreLeft Tells xs ys → AreLeft Tells ys zs → AreLeft Tells xs zs
  left_on [] ys zs h k = subst (λ (l : List W). AreLeft Tells l zs) h k
  left_on (x ∷ xs) ys zs (inr h) k = inr (h.0, left_on xs ys zs h.1 k)
  left_on (x ∷ xs) ys zs (inl h) k =
      let j : AreLeft Tells (x ∷ h.0) zs = subst (λ (l : List W). AreLeft Tells l zs) h.2 k in
      elim j [ inl m ↦ inl (m.0, left_on xs h.0 m.0 h.1 m.1, m.2) | inr m ↦ inr (m.0, left_on xs h.0 zs h.1 m.1) ]

  left_append : (xs ys zs : List W) → AreLeft Tells xs ys → AreLeft Tells (xs ++ zs) (ys ++ zs)
  left_append [] ys zs h = subst (λ (l : List W). AreLeft Tells zs (l ++ zs)) (sym h) (left_same zs)
  left_append (x ∷ xs) ys zs (inr h) = inr (h.0, left_append xs ys zs h.1)
  left_append (x ∷ xs) ys zs (inl h) = inl (h.0 ++ zs, left_append xs h.0 zs h.1, ap (λ (l : List W). l ++ zs) h.2)

  -- the one at the first place is taken
  pub takes_first : (value other : Bool) (seen old new : List W) (place : Option ℕ) (taken : Option W) → IsFirst Tells value other seen place → seen ≡ old → taken ≡ taken_at old place → new ≡ left_at old place → TakesFirst Tells value other old new taken
  takes_first value other seen old new place taken first same is left =
      (place, subst (λ (l : List W). IsFirst Tells value other l place) same first, is, left)

  pub within : (value other : Bool) (xs : List W) (place : Option ℕ) → IsFirst Tells value other xs place → IfSome place (λ i. i < length xs)
  within value other xs None h = tt
  within value other xs (Some i) h = h.0

module _ {W : Type 0} (Tells : W → Bool → Type 0) (Comes : W → Type 0) where
  pub seats_left : (old new : List W) → AreLeft Tells old new → Seats Tells Comes old new
  seats_left old new left = ([], All-nil Comes, subst (λ (l : List W). AreLeft Tells l new) (sym (append-nil old)) left)

  pub seats_same : (xs : List W) → Seats Tells Comes xs xs
  seats_same xs = seats_left xs xs (left_same Tells xs)

  -- one is seated, if there is memory
  pub seats_one : (old between new : List W) (one : W) (is_seated : Bool) → AreLeft Tells old between → Comes one → new ≡ cond is_seated (between ++ one ∷ []) between → Seats Tells Comes old new
  seats_one old between new one true left comes is =
      (one ∷ [], All-cons Comes one [] comes (All-nil Comes), subst (λ (l : List W). AreLeft Tells (old ++ one ∷ []) l) (sym is) (left_append Tells old between (one ∷ []) left))
  seats_one old between new one false left comes is = seats_left old new (subst (λ (l : List W). AreLeft Tells old l) (sym is) left)

  pub seats_on : (old between new : List W) → Seats Tells Comes old between → Seats Tells Comes between new → Seats Tells Comes old new
  seats_on old between new h k =
      let left : AreLeft Tells ((old ++ h.0) ++ k.0) new = left_on Tells ((old ++ h.0) ++ k.0) (between ++ k.0) new (left_append Tells (old ++ h.0) between k.0 h.2) k.2 in
      (h.0 ++ k.0, All-append Comes h.0 k.0 h.1 k.1, subst (λ (l : List W). AreLeft Tells l new) (append_assoc old h.0 k.0) left)
