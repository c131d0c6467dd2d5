-- A row among others: by its number, by its name, by a number that leads to it.
use Rattle.std.proofs.Common.{◌≡◌, inl, inr, ℕ, ℤ, ◌<ℤ◌, Bool, true, false, not, ◌&&◌, List, [], ◌∷◌, cond, find, Option, Some, is_some, refl, sym, ap, ◌∙◌, subst, arith, int_eq, is_eq, true≢false}
use Rattle.std.proofs.lemmas.Cmp.{nat_list_cmp_total, tied_itself}
use Rattle.sqltables.proofs.Words.{AllByRecursion, bytes_eq, Has, ints, IsKeyedBy, IsNamedBy, LeadsTo, none_from_any, not-true, same_int}
use Rattle.sqlite_keyed.specs.Rules.{has_parent, is_apart}
use Rattle.sqlrows.proofs.ReplaceLemmas.{at-all}

-- what is found is there, and passes
pub found_there : {X : Type 0} (p : X → Bool) (xs : List X) → is_some (find p xs) ≡ true → (x : X) × Has xs x × (p x ≡ true)
found_there p [] h = absurd (true≢false (sym h))
found_there {X} p (y ∷ ys) h = go (p y) refl h (found_there p ys)
  where
    go : (b : Bool) → p y ≡ b → is_some (cond b (Some y) (find p ys)) ≡ true → (is_some (find p ys) ≡ true → (x : X) × Has ys x × (p x ≡ true)) → (x : X) × Has (y ∷ ys) x × (p x ≡ true)
    go true e k later = (y, inl refl, e)
    go false e k later = let it = later k in (it.0, inr it.1, it.2)

module _ {X : Type 0} (key : X → ℤ) where
  -- rows with one number are one row
  pub same_by_key : (xs : List X) (a b : X) → IsKeyedBy key xs → Has xs a → Has xs b → key a ≡ key b → a ≡ b
  same_by_key [] a b up ha hb e = absurd ha
  same_by_key (x ∷ xs) a b up (inl p) (inl q) e = p ∙ sym q
  same_by_key (x ∷ xs) a b up (inl p) (inr q) e =
      let below = at-all (λ y. key x <ℤ key y) xs b up.0 q in
      let same = sym (ap key p) ∙ e in
      absurd (omega (arith, ints))
  same_by_key (x ∷ xs) a b up (inr p) (inl q) e =
      let below = at-all (λ y. key x <ℤ key y) xs a up.0 p in
      let same = e ∙ ap key q in
      absurd (omega (arith, ints))
  same_by_key (x ∷ xs) a b up (inr p) (inr q) e = same_by_key xs a b up.1 p q e

pub bytes_same : (a b : List ℕ) → a ≡ b → bytes_eq a b ≡ true
bytes_same a b e = subst (λ (x : List ℕ). bytes_eq a x ≡ true) e (ap is_eq (tied_itself nat_list_cmp_total a))

-- rows of which none has the name of another
pub named_if_apart : {X : Type 0} (key : X → ℤ) (name : X → List ℕ) (xs : List X) → IsKeyedBy key xs → AllByRecursion (λ x. is_apart key (λ a b. bytes_eq (name a) (name b)) xs x ≡ true) xs → IsNamedBy name xs
named_if_apart key name xs up each a b ha hb e =
    let none = none_from_any _ xs (not-true _ (at-all (λ x. is_apart key (λ a b. bytes_eq (name a) (name b)) xs x ≡ true) xs b each hb)) in
    let here = at-all (λ x. (not (int_eq (key x) (key b)) && bytes_eq (name x) (name b)) ≡ false) xs a none ha in
    same_by_key key xs a b up ha hb (same_int (key a) (key b) (same_if_tied (int_eq (key a) (key b)) (bytes_eq (name a) (name b)) here (bytes_same (name a) (name b) e)))
  where
    same_if_tied : (same tied : Bool) → (not same && tied) ≡ false → tied ≡ true → same ≡ true
    same_if_tied true tied h t = refl
    same_if_tied false tied h t = sym h ∙ t

-- rows whose column is NULL or has a parent
pub leads_if_held : {X Y : Type 0} (xs : List X) (column : X → Option ℤ) (ys : List Y) (key : Y → ℤ) → AllByRecursion (λ x. has_parent key ys (column x) ≡ true) xs → LeadsTo xs column ys key
leads_if_held xs column ys key each x h id is =
    let held = subst (λ (o : Option ℤ). has_parent key ys o ≡ true) is (at-all (λ x. has_parent key ys (column x) ≡ true) xs x each h) in
    let it = found_there (λ y. int_eq (key y) id) ys held in
    (it.0, it.1, same_int (key it.0) id it.2)
