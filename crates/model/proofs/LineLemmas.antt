-- What is so of all items of a bag, of none, or of a number of them, as items are added and made anew;
-- and tests of lines.
use Rattle.std.proofs.Common.{◌≡◌, ◌≢◌, ℕ, suc, ◌==◌, Bool, true, false, cond, ◌||◌, List, [], ◌∷◌, map, length, Option, Some, None, refl, sym, ap, ◌∙◌, arith, eqb-true}
use Rattle.std.proofs.lemmas.Bool.{or_from, or_parts, or_right}
use Rattle.std.proofs.lemmas.Bool.Decides.{nat_tests}
pub use Rattle.std.proofs.lemmas.Bool.{and_right as and-false, ne_eqb as not-itself}
use Rattle.std.specs.List.{AllByRecursion, filter, list_any}
use Rattle.basis.specs.Bag.{add, bag_of, remade}
use Rattle.basis.proofs.BagLaws.{all-either, any-add, any-bag_of}
use Rattle.objects.specs.declared.domain.Domain.{Domain}
use Rattle.objects.specs.declared.transfer.Transfer.{Transfer}
use Rattle.objects.specs.Transfers.{is_pending_state}
use Rattle.model.specs.Registry.{Registry, account_of}
use Rattle.model.specs.WellFormed.{IsAwaitedIfPending, begins_after}

-- ---- all

pub all-add : {A : Type 0} (le : A → A → Bool) (P : A → Type 0) (x : A) (ys : List A) → P x → AllByRecursion P ys → AllByRecursion P (add le x ys)
unfolding add
all-add le P x [] h all = (h, tt)
all-add le P x (y ∷ ys) h all = all-either P (le x y) (x ∷ y ∷ ys) (y ∷ add le x ys) (h, all) (all.0, all-add le P x ys h all.1)

pub all-remade : {A : Type 0} (le : A → A → Bool) (P Q : A → Type 0) (f : A → A) → ((x : A) → P x → Q (f x)) → (xs : List A) → AllByRecursion P xs → AllByRecursion Q (remade le f xs)
unfolding bag_of
all-remade le P Q f step [] all = tt
all-remade le P Q f step (x ∷ xs) all = all-add le Q (f x) (remade le f xs) (step x all.0) (all-remade le P Q f step xs all.1)

pub all-weaker : {A : Type 0} (P Q : A → Type 0) → ((x : A) → P x → Q x) → (xs : List A) → AllByRecursion P xs → AllByRecursion Q xs
all-weaker P Q step [] all = tt
all-weaker P Q step (x ∷ xs) all = (step x all.0, all-weaker P Q step xs all.1)

-- ---- none

pub none-add : {A : Type 0} (le : A → A → Bool) (test : A → Bool) (x : A) (ys : List A) → test x ≡ false → list_any test ys ≡ false → list_any test (add le x ys) ≡ false
none-add le test x ys e none = any-add le test x ys ∙ or_from (test x) (list_any test ys) e none

pub none-map : {A : Type 0} (test tested : A → Bool) (f : A → A) → ((x : A) → test x ≡ false → tested (f x) ≡ false) → (xs : List A) → list_any test xs ≡ false → list_any tested (map f xs) ≡ false
none-map test tested f step [] none = refl
none-map test tested f step (x ∷ xs) none =
    let parts = or_parts (test x) (list_any test xs) none in
    or_from (tested (f x)) (list_any tested (map f xs)) (step x parts.0) (none-map test tested f step xs parts.1)

pub none-remade : {A : Type 0} (le : A → A → Bool) (test tested : A → Bool) (f : A → A) → ((x : A) → test x ≡ false → tested (f x) ≡ false) → (xs : List A) → list_any test xs ≡ false → list_any tested (remade le f xs) ≡ false
none-remade le test tested f step xs none = any-bag_of le tested (map f xs) ∙ none-map test tested f step xs none

pub none-weaker : {A : Type 0} (test tested : A → Bool) → ((x : A) → test x ≡ false → tested x ≡ false) → (xs : List A) → list_any test xs ≡ false → list_any tested xs ≡ false
none-weaker test tested step [] none = refl
none-weaker test tested step (x ∷ xs) none =
    let parts = or_parts (test x) (list_any test xs) none in
    or_from (tested x) (list_any tested xs) (step x parts.0) (none-weaker test tested step xs parts.1)

-- what no item of a list passes that has a property
pub none-by : {A : Type 0} (P : A → Type 0) (test : A → Bool) → ((x : A) → P x → test x ≡ false) → (xs : List A) → AllByRecursion P xs → list_any test xs ≡ false
none-by P test step [] all = refl
none-by P test step (x ∷ xs) all = or_from (test x) (list_any test xs) (step x all.0) (none-by P test step xs all.1)

-- ---- how many

abbrev pub count : {A : Type 0} → (A → Bool) → List A → ℕ
count test xs = length (filter test xs)

-- an item that passes is one more
abbrev pub one_if : Bool → ℕ → ℕ
one_if b n = cond b (suc n) n

count-where : {A : Type 0} (b : Bool) (x : A) (xs : List A) → length (cond b (x ∷ xs) xs) ≡ one_if b (length xs)
count-where true x xs = refl
count-where false x xs = refl

pub count-cons : {A : Type 0} (test : A → Bool) (x : A) (xs : List A) → count test (x ∷ xs) ≡ one_if (test x) (count test xs)
count-cons test x xs = count-where (test x) x (filter test xs)

one-swap : (a b : Bool) (n : ℕ) → one_if a (one_if b n) ≡ one_if b (one_if a n)
one-swap true true n = refl
one-swap true false n = refl
one-swap false true n = refl
one-swap false false n = refl

count-step : {A : Type 0} (test : A → Bool) (b : Bool) (x y : A) (ys zs : List A) → count test zs ≡ one_if (test x) (count test ys) → count test (cond b (x ∷ y ∷ ys) (y ∷ zs)) ≡ one_if (test x) (count test (y ∷ ys))
count-step test true x y ys zs e = count-cons test x (y ∷ ys)
count-step test false x y ys zs e = count-cons test y zs ∙ ap (one_if (test y)) e ∙ one-swap (test y) (test x) (count test ys) ∙ ap (one_if (test x)) (sym (count-cons test y ys))

pub count-add : {A : Type 0} (le : A → A → Bool) (test : A → Bool) (x : A) (ys : List A) → count test (add le x ys) ≡ one_if (test x) (count test ys)
unfolding add
count-add le test x [] = count-cons test x []
count-add le test x (y ∷ ys) = count-step test (le x y) x y ys (add le x ys) (count-add le test x ys)

pub count-add-none : {A : Type 0} (le : A → A → Bool) (test : A → Bool) (x : A) (ys : List A) → test x ≡ false → count test (add le x ys) ≡ count test ys
count-add-none le test x ys e = count-add le test x ys ∙ ap (λ (b : Bool). one_if b (count test ys)) e

-- items made anew that pass as they did
pub count-remade : {A : Type 0} (le : A → A → Bool) (test : A → Bool) (f : A → A) → ((x : A) → test (f x) ≡ test x) → (xs : List A) → count test (remade le f xs) ≡ count test xs
unfolding bag_of
count-remade le test f same [] = refl
count-remade le test f same (x ∷ xs) =
    count-add le test (f x) (remade le f xs) ∙ (λ i. one_if (same x i) (count-remade le test f same xs i)) ∙ sym (count-cons test x xs)

-- and that pass no more
pub count-none-remade : {A : Type 0} (le : A → A → Bool) (test : A → Bool) (f : A → A) → ((x : A) → test (f x) ≡ false) → (xs : List A) → count test (remade le f xs) ≡ 0
unfolding bag_of
count-none-remade le test f none [] = refl
count-none-remade le test f none (x ∷ xs) =
    count-add le test (f x) (remade le f xs) ∙ (λ i. one_if (none x i) (count-none-remade le test f none xs i))

pub count-none : {A : Type 0} (test : A → Bool) (xs : List A) → list_any test xs ≡ false → count test xs ≡ 0
count-none test [] none = refl
count-none test (x ∷ xs) none =
    let parts = or_parts (test x) (list_any test xs) none in
    count-cons test x xs ∙ (λ i. one_if (parts.0 i) (count-none test xs parts.1 i))

-- where there is one, some item passes, and is made to pass another test
pub any-of-one : {A : Type 0} (le : A → A → Bool) (test tested : A → Bool) (f : A → A) → ((x : A) → test x ≡ true → tested (f x) ≡ true) → (xs : List A) → count test xs ≡ 1 → list_any tested (remade le f xs) ≡ true
any-of-one {A} le test tested f step xs one = any-bag_of le tested (map f xs) ∙ from xs one
  where
    from : (ys : List A) → count test ys ≡ 1 → list_any tested (map f ys) ≡ true
    from [] one = absurd (let never : 0 ≡ 1 = one in omega (arith, never))
    from (y ∷ ys) one = by (test y) refl (sym (count-cons test y ys) ∙ one) (from ys)
      where
        by : (b : Bool) → test y ≡ b → one_if b (count test ys) ≡ 1 → (count test ys ≡ 1 → list_any tested (map f ys) ≡ true) → (tested (f y) || list_any tested (map f ys)) ≡ true
        by true e one rest = ap (λ (c : Bool). c || list_any tested (map f ys)) (step y e)
        by false e one rest = or_right (tested (f y)) (list_any tested (map f ys)) (rest one)

-- ---- tests

pub itself : (n : ℕ) → (n == n) ≡ true
itself n = grind (arith, nat_tests)

-- a number is another, or isn't
pub one-or-other : {A : Type 0} (a b : ℕ) → (a ≡ b → A) → (a ≢ b → A) → A
one-or-other {A} a b same other = by (a == b) refl
  where
    by : (c : Bool) → (a == b) ≡ c → A
    by true e = same (eqb-true a b e)
    by false e = other (λ is. let never : true ≡ false = sym (itself a) ∙ ap (λ (n : ℕ). a == n) is ∙ e in absurd cc)

-- ---- a pending transfer

-- where its sponsor has no line in another registry that begins after the transfer is due, there too
pub awaited-carried : (s t : Registry) (d : Domain) (o : Option Transfer)
    → ((x : Transfer) → o ≡ Some x → is_pending_state x.state ≡ true → list_any (begins_after d.roid (Some x.ac_date)) (account_of d.sponsor s).lines ≡ false → list_any (begins_after d.roid (Some x.ac_date)) (account_of d.sponsor t).lines ≡ false)
    → IsAwaitedIfPending s d o → IsAwaitedIfPending t d o
awaited-carried s t d None carry h = tt
awaited-carried s t d (Some x) carry h = λ pending. let w = h pending in record {
  losing_registrar = w.losing_registrar;
  requester = w.requester;
  created = w.created;
  transferred = w.transferred;
  due = w.due;
  lines = carry x refl pending w.lines;
}
