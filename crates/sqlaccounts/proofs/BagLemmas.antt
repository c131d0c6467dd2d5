-- Parts of bags.
use Rattle.std.proofs.Common.{arith, ◌≡◌, Bool, false, not, List, [], ◌∷◌, ◌++◌, map, filter, refl, sym, ap, ◌∙◌, append-nil}
use Rattle.sqlaccounts.proofs.Words.{add-add, IsLinear}
use Rattle.basis.specs.Bag.{add, bag_of}

pub bag-nil : {A : Type 0} (le : A → A → Bool) → bag_of le [] ≡ []
unfolding bag_of
bag-nil le = refl

module _ {A : Type 0} (le : A → A → Bool) (h : IsLinear le) where
  pub bag-added : (x : A) (ys zs : List A) → bag_of le (add le x ys ++ zs) ≡ add le x (bag_of le (ys ++ zs))
  unfolding bag_of add
  bag-added x [] zs = refl
  bag-added x (y ∷ ys) zs = grind (arith, bag-added x ys zs, add-add le h y x (bag_of le (ys ++ zs)))

  -- a bag's items are the list's
  pub bag-bag : (xs zs : List A) → bag_of le (bag_of le xs ++ zs) ≡ bag_of le (xs ++ zs)
  unfolding bag_of
  bag-bag [] zs = refl
  bag-bag (x ∷ xs) zs = bag-added x (bag_of le xs) zs ∙ ap (add le x) (bag-bag xs zs)

  pub bag-again : (xs : List A) → bag_of le (bag_of le xs) ≡ bag_of le xs
  bag-again xs = ap (bag_of le) (sym (append-nil (bag_of le xs))) ∙ bag-bag xs [] ∙ ap (bag_of le) (append-nil xs)

  -- an item among others
  pub bag-middle : (xs : List A) (x : A) (ys : List A) → bag_of le (xs ++ x ∷ ys) ≡ add le x (bag_of le (xs ++ ys))
  unfolding bag_of
  bag-middle [] x ys = refl
  bag-middle (z ∷ xs) x ys = rw (bag-middle xs x ys, add-add le h z x (bag_of le (xs ++ ys)))

  -- those that pass a test, and the others
  pub bag-parts : (p : A → Bool) (xs : List A) → bag_of le xs ≡ bag_of le (filter p xs ++ filter (λ y. not (p y)) xs)
  unfolding bag_of
  bag-parts p [] = refl
  bag-parts p (x ∷ xs) = grind (arith, bag-parts p xs, bag-middle (filter p xs) x (filter (λ y. not (p y)) xs))

-- what a change leaves of those that fail a test
pub map-others : {A : Type 0} (p : A → Bool) (f : A → A) → ((x : A) → p x ≡ false → f x ≡ x) → (xs : List A) → map f (filter (λ y. not (p y)) xs) ≡ filter (λ y. not (p y)) xs
map-others p f out [] = refl
map-others p f out (x ∷ xs) = grind (arith, map-others p f out xs, out x)
