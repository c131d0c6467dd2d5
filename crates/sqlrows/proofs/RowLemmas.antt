-- A row that is found by its number, and one put in the place of another.
use Rattle.std.proofs.Common.{◌≡◌, ◌⊎◌, inl, inr, ℤ, Bool, true, false, cond, ◌&&◌, List, [], ◌∷◌, filter, find, Option, Some, None, refl, sym, ap, ◌∙◌, arith, Ordering, Less, Equal, Greater, int_cmp, int_eq, true≢false}
use Rattle.std.proofs.lemmas.Bool.Decides.{Decides-int_eq}
use Rattle.sqlrows.proofs.Words.{get_by, Has, insert_by, ints, is_eq, list_all, lt_from_Less, match_ordering, rows_of, same_int}
use Rattle.sqlite_keyed.proofs.KeyedLemmas.{all-insert_by as each-insert_by}
use Rattle.sqlite_rules.proofs.ListLemmas.{all_from, all_has, has_found}

-- ---- one row at most

abbrev head_of : {X : Type 0} → List X → Option X
head_of [] = None
head_of (x ∷ xs) = Some x

find-filter : {X : Type 0} (p : X → Bool) (xs : List X) → find p xs ≡ head_of (filter p xs)
find-filter p [] = refl
find-filter p (x ∷ xs) = go (p x) (find-filter p xs)
  where
    go : (b : Bool) → find p xs ≡ head_of (filter p xs) → cond b (Some x) (find p xs) ≡ head_of (cond b (x ∷ filter p xs) (filter p xs))
    go true e = refl
    go false e = e

head-rows_of : {X : Type 0} (it : Option X) → head_of (rows_of it) ≡ it
head-rows_of None = refl
head-rows_of (Some x) = refl

pub find_one : {X : Type 0} (p : X → Bool) (xs rows : List X) (it : Option X) → rows ≡ filter p xs → rows ≡ rows_of it → it ≡ find p xs
find_one p xs rows it e f = sym (find-filter p xs ∙ ap head_of (sym e ∙ f) ∙ head-rows_of it)

-- ---- put in its place

not_less : {a b : ℤ} → a ≡ b → int_cmp a b ≡ Less → ⊥
not_less {a} {b} e is = grind (arith, ints, lt_from_Less a b is)

turned : (a b c : Bool) → (a && (b && c)) ≡ (b && (a && c))
turned true b c = refl
turned false true c = refl
turned false false c = refl

twice : (a c : Bool) → (a && c) ≡ (a && (a && c))
twice true c = refl
twice false c = refl

module _ {X : Type 0} (key : X → ℤ) where
  pub get_by-insert_by : (xs : List X) (new : X) (id : ℤ) → get_by key (insert_by key xs new) id ≡ cond (int_eq (key new) id) (Some new) (get_by key xs id)
  get_by-insert_by [] new id = refl
  get_by-insert_by (x ∷ xs) new id = go (int_cmp (key x) (key new)) (int_eq (key x) id) (int_eq (key new) id) refl refl refl (get_by-insert_by xs new id)
    where
      go : (o : Ordering) (b c : Bool) → int_cmp (key x) (key new) ≡ o → int_eq (key x) id ≡ b → int_eq (key new) id ≡ c
          → get_by key (insert_by key xs new) id ≡ cond c (Some new) (get_by key xs id)
          → get_by key (match_ordering o (x ∷ insert_by key xs new) (new ∷ xs) (new ∷ x ∷ xs)) id ≡ cond c (Some new) (cond b (Some x) (get_by key xs id))
      go Less true true is f g e = absurd (not_less (same_int (key x) id f ∙ sym (same_int (key new) id g)) is)
      go Less true false is f g e = ap (λ t. cond t (Some x) (get_by key (insert_by key xs new) id)) f
      go Less false c is f g e = ap (λ t. cond t (Some x) (get_by key (insert_by key xs new) id)) f ∙ e
      go Equal b true is f g e = ap (λ t. cond t (Some new) (get_by key xs id)) g
      go Equal true false is f g e = absurd (true≢false (sym f ∙ ap (λ k. int_eq k id) (same_int (key x) (key new) (ap is_eq is)) ∙ g))
      go Equal false false is f g e = ap (λ t. cond t (Some new) (get_by key xs id)) g
      go Greater b true is f g e = ap (λ t. cond t (Some new) (get_by key (x ∷ xs) id)) g
      go Greater b false is f g e = ap (λ t. cond t (Some new) (get_by key (x ∷ xs) id)) g ∙ ap (λ t. cond t (Some x) (get_by key xs id)) f

  -- what was put is there
  pub has-insert_by : (xs : List X) (new : X) → Has (insert_by key xs new) new
  has-insert_by xs new = (has_found (λ x. int_eq (key x) (key new)) (insert_by key xs new) new (rw (get_by-insert_by xs new (key new), (Decides-int_eq (key new) (key new)).1 refl) refl)).0

  -- each row is the one that was put, or was there
  pub put-or-there : (xs : List X) (new y : X) → Has (insert_by key xs new) y → (y ≡ new) ⊎ Has xs y
  put-or-there xs new y = all_has (λ x. (x ≡ new) ⊎ Has xs x) (insert_by key xs new) y (each-insert_by key (λ x. (x ≡ new) ⊎ Has xs x) xs new (inl refl) (all_from (λ x. (x ≡ new) ⊎ Has xs x) xs (λ x. inr)))

  pub all-insert_by : (g : ℤ → Bool) (xs : List X) (new : X) → list_all (λ x. g (key x)) (insert_by key xs new) ≡ (g (key new) && list_all (λ x. g (key x)) xs)
  all-insert_by g [] new = refl
  all-insert_by g (x ∷ xs) new = go (int_cmp (key x) (key new)) refl (all-insert_by g xs new)
    where
      go : (o : Ordering) → int_cmp (key x) (key new) ≡ o → list_all (λ x. g (key x)) (insert_by key xs new) ≡ (g (key new) && list_all (λ x. g (key x)) xs)
          → list_all (λ x. g (key x)) (match_ordering o (x ∷ insert_by key xs new) (new ∷ xs) (new ∷ x ∷ xs)) ≡ (g (key new) && (g (key x) && list_all (λ x. g (key x)) xs))
      go Less is e = ap (λ b. g (key x) && b) e ∙ turned (g (key x)) (g (key new)) _
      go Equal is e = twice (g (key new)) _ ∙ ap (λ k. g (key new) && (g k && list_all (λ x. g (key x)) xs)) (sym (same_int (key x) (key new) (ap is_eq is)))
      go Greater is e = refl

  pub all_with : (g : ℤ → Bool) (xs : List X) (id : ℤ) (row : X) → get_by key xs id ≡ Some row → (g id && list_all (λ x. g (key x)) xs) ≡ list_all (λ x. g (key x)) xs
  all_with g [] id row found = cc
  all_with g (x ∷ xs) id row found = go (int_eq (key x) id) refl found (all_with g xs id row)
    where
      go : (b : Bool) → int_eq (key x) id ≡ b → cond b (Some x) (get_by key xs id) ≡ Some row
          → (get_by key xs id ≡ Some row → (g id && list_all (λ x. g (key x)) xs) ≡ list_all (λ x. g (key x)) xs)
          → (g id && (g (key x) && list_all (λ x. g (key x)) xs)) ≡ (g (key x) && list_all (λ x. g (key x)) xs)
      go true e found more = ap (λ k. g k && (g (key x) && list_all (λ x. g (key x)) xs)) (sym (same_int (key x) id e)) ∙ sym (twice (g (key x)) _)
      go false e found more = turned (g id) (g (key x)) _ ∙ ap (λ b. g (key x) && b) (more found)
