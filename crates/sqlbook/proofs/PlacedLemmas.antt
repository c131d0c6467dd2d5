-- A host under its new name, among names that were put into their places one after another.
use Rattle.std.proofs.Common.{◌≡◌, ℕ, Bool, true, false, cond, not, ◌||◌, List, [], ◌∷◌, filter, refl, sym, ap, ◌∙◌, true≢false}
use Rattle.std.proofs.lemmas.{Bool.false_from_ne_true, Map.Views.any-filter_same, Slice.Eq.bytes_eq-Decides}
use Rattle.std.specs.Str.{bytes_eq}
use Rattle.sqlbook.proofs.Words.{nat_cmp, new_name, placed, slice_cmp}
use Rattle.sqlite_keyed.proofs.ListLemmas.{all_weaker, filter_all, none_from_any}
use Rattle.basis.specs.Bag.{IsLinear, add, bag_of, precedes}
use Rattle.basis.proofs.{BagLaws.{add-add, any-add, filter-bag_of}, OrderLaws.linear_by_numbers}
use Rattle.objects.specs.Links.{has_name}
use Rattle.decisions.specs.Changes.{renamed}

abbrev le : List ℕ → List ℕ → Bool
le = precedes (slice_cmp nat_cmp)

-- ---- the order of names

names-linear : IsLinear le
names-linear = linear_by_numbers (λ name. name) (λ x y e. e)

-- ---- names one by one

same : (a b : List ℕ) → bytes_eq a b ≡ true → a ≡ b
same a b = (bytes_eq-Decides a b).0

itself : (a : List ℕ) → bytes_eq a a ≡ true
itself a = (bytes_eq-Decides a a).1 refl

apart-back : (a b : List ℕ) → bytes_eq a b ≡ false → bytes_eq b a ≡ false
apart-back a b e = false_from_ne_true (bytes_eq b a) (λ t. true≢false (sym ((bytes_eq-Decides a b).1 (sym (same b a t))) ∙ e))

-- the list has a name that was added, or that it had
has-added : (n q : List ℕ) (l : List (List ℕ)) → has_name (add le n l) q ≡ (bytes_eq n q || has_name l q)
has-added n q l = any-add le (λ o. bytes_eq o q) n l

-- ---- the names but for one

abbrev others : List ℕ → List (List ℕ) → List (List ℕ)
others from names = filter (λ host. not (bytes_eq host from)) names

has-kept : (from q : List ℕ) (l : List (List ℕ)) → bytes_eq q from ≡ false → has_name (others from l) q ≡ has_name l q
has-kept from q l other = any-filter_same (λ host. bytes_eq host q) (λ host. not (bytes_eq host from)) true (λ host e. ap not (ap (λ z. bytes_eq z from) (same host q e) ∙ other)) l

all-kept : (from : List ℕ) (l : List (List ℕ)) → has_name l from ≡ false → others from l ≡ l
all-kept from l lacks = filter_all (λ host. not (bytes_eq host from)) l (all_weaker (λ host. bytes_eq host from ≡ false) _ (λ host e. ap not e) l (none_from_any (λ host. bytes_eq host from) l lacks))

-- ---- names in their places, of which none is the one

pub record IsInPlaces (to : List ℕ) (l : List (List ℕ)) : Type 0 where
  pub items : List (List ℕ)
  pub is : l ≡ bag_of le items
  pub lacks : has_name l to ≡ false

pub none-placed : (to : List ℕ) → IsInPlaces to []
unfolding bag_of
none-placed to = record { items = []; is = refl; lacks = refl }

pub one-placed : (to n : List ℕ) (l : List (List ℕ)) → IsInPlaces to l → bytes_eq n to ≡ false → IsInPlaces to (placed n l)
unfolding bag_of
one-placed to n l it other = go (has_name l n)
  where
    go : (b : Bool) → IsInPlaces to (cond b l (add le n l))
    go true = it
    go false = record {
      items = n ∷ it.items;
      is = ap (add le n) it.is;
      lacks = has-added n to l ∙ ap (λ b. b || has_name l to) other ∙ it.lacks;
    }

module _ (from to : List ℕ) (l : List (List ℕ)) (it : IsInPlaces to l) where
  others-added : (n : List ℕ) → others from (add le n l) ≡ cond (bytes_eq n from) (others from l) (add le n (others from l))
  unfolding bag_of
  others-added n =
      ap (λ x. others from (add le n x)) it.is
      ∙ filter-bag_of le names-linear (λ host. not (bytes_eq host from)) (n ∷ it.items)
      ∙ go (bytes_eq n from)
      ∙ ap (λ rest. cond (bytes_eq n from) rest (add le n rest)) (sym (ap (others from) it.is ∙ filter-bag_of le names-linear (λ host. not (bytes_eq host from)) it.items))
    where
      go : (b : Bool) → bag_of le (cond (not b) (n ∷ others from it.items) (others from it.items)) ≡ cond b (bag_of le (others from it.items)) (add le n (bag_of le (others from it.items)))
      go true = refl
      go false = refl

  -- of a name that is the one
  the-one : (b : Bool) → has_name l from ≡ b → renamed from to (placed from l) ≡ placed to (renamed from to l)
  the-one true e = simp (e, has-added to to (others from l), itself to)
  the-one false e = simp (e, has-added from from l, itself from, it.lacks, others-added from, all-kept from l e)

  -- of another name
  another : (n : List ℕ) → bytes_eq n from ≡ false → bytes_eq n to ≡ false → (b c : Bool) → has_name l from ≡ b → has_name l n ≡ c → renamed from to (placed n l) ≡ placed n (renamed from to l)
  another n other apart true true e f = simp (e, f, has-added to n (others from l), apart-back n to apart, has-kept from n l other)
  another n other apart true false e f = simp (e, f, has-added n from l, other, has-added to n (others from l), apart-back n to apart, has-kept from n l other, others-added n) (add-add le names-linear to n (others from l))
  another n other apart false true e f = simp (e, f)
  another n other apart false false e f = simp (e, f, has-added n from l, other)

  pub renamed-placed : (n : List ℕ) → bytes_eq n to ≡ false → renamed from to (placed n l) ≡ placed (new_name from to n) (renamed from to l)
  renamed-placed n apart = go (bytes_eq n from) refl
    where
      go : (b : Bool) → bytes_eq n from ≡ b → renamed from to (placed n l) ≡ placed (cond b to n) (renamed from to l)
      go true e = rw (same n from e) (the-one (has_name l from) refl)
      go false e = another n e apart (has_name l from) (has_name l n) refl refl
