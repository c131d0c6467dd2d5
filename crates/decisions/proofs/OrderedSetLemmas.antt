-- Lists of texts that stay ordered sets, and how many items they have: in order, amended, and with one renamed.
use Rattle.std.proofs.Common.{◌≡◌, ℕ, Bool, true, false, cond, not, ◌||◌, List, [], ◌∷◌, ◌++◌, map, filter, fold, refl, sym, ap, subst, ◌∙◌}
use Rattle.std.proofs.Common.{◌+◌, ◌≤◌, nat_lt, length, length-append, arith}
use Rattle.std.specs.List.Sorted.{IsStrictlySortedBy}
use Rattle.std.specs.declared.{cmp.Ordering.Ordering, cmp.Ordering.TheVariants.Less, cmp.Ordering.TheVariants.Equal, cmp.Ordering.TheVariants.Greater}
use Rattle.decisions.proofs.Words.{adds_what_is_there, AllByRecursion, false_from_ne_true, IsOrderedSet, nat_list_cmp_total, ordering_reverse}
use Rattle.decisions.proofs.Words.{and_right, bytes_decides, bytes_eq, cond_both, has_name, has_twice, is_among, length-map, names_apart, nat_tests, slice_cmp}
use Rattle.decisions.proofs.Words.{add, amended, any-add, is_le, is_over, itself, kept, list_any, nat_cmp, or_from, or_parts, precedes, renamed}
use Rattle.decisions.proofs.LinkLemmas.{has_name-filter, has_name-in_order}
use Rattle.model.proofs.LineLemmas.{all-add, all-weaker, none-weaker}
use Rattle.std.proofs.lemmas.List.{Kept.IsStrictlySortedBy-filter, Filters.length-filter_both}
use Rattle.{basis.proofs.SweepLaws.fold_append, policy.proofs.TextLemmas.list_any_of_map}
use Rattle.objects.specs.Links.{in_order}

abbrev Text : Type 0
Text = List ℕ

abbrev cmp : Text → Text → Ordering
cmp = slice_cmp nat_cmp

abbrev le : Text → Text → Bool
le = precedes (slice_cmp nat_cmp)

-- ---- one text before another

itself-eq : (x : Text) → bytes_eq x x ≡ true
itself-eq x = (bytes_decides x x).1 refl

-- the first of two different ones
first-of : (x y : Text) → le x y ≡ true → bytes_eq y x ≡ false → cmp x y ≡ Less
first-of x y e other = by (cmp x y) refl e
  where
    by : (o : Ordering) → cmp x y ≡ o → is_le o ≡ true → cmp x y ≡ Less
    by Less is e = is
    by Equal is e = absurd (let never : true ≡ false = sym (itself-eq x) ∙ ap (λ (z : Text). bytes_eq z x) (names_apart x y is) ∙ other in cc)
    by Greater is e = absurd (cc)

turned : (x y : Text) → le x y ≡ false → cmp y x ≡ Less
turned x y e = nat_list_cmp_total.antisymm y x ∙ by (cmp x y) e
  where
    by : (o : Ordering) → is_le o ≡ false → ordering_reverse o ≡ Less
    by Greater e = refl
    by _ e = absurd (cc)

-- what comes later is another
later-other : (x y : Text) → cmp x y ≡ Less → bytes_eq y x ≡ false
later-other x y less = false_from_ne_true (bytes_eq y x) (λ e.
    let back : cmp x x ≡ Less = subst (λ (z : Text). cmp x z ≡ Less) ((bytes_decides y x).0 e) less in
    let round : cmp x x ≡ Greater = nat_list_cmp_total.antisymm x x ∙ ap ordering_reverse back in
    cc)

-- what differs from another, the other differs from
other-turned : (x y : Text) → bytes_eq y x ≡ false → bytes_eq x y ≡ false
other-turned x y other = false_from_ne_true (bytes_eq x y) (λ e.
    let turned : bytes_eq y x ≡ true = (bytes_decides y x).1 (sym ((bytes_decides x y).0 e)) in
    cc)

-- ---- an item is put where it belongs, that isn't there

pub set-add : (x : Text) (ys : List Text) → has_name ys x ≡ false → IsOrderedSet ys → IsOrderedSet (add le x ys)
unfolding add IsStrictlySortedBy
set-add x [] new h = (tt, tt)
set-add x (y ∷ ys) new h =
    let parts = or_parts (bytes_eq y x) (has_name ys x) new in
    cond_both (le x y) (x ∷ y ∷ ys) (y ∷ add le x ys) IsOrderedSet
    (λ e. let less : cmp x y ≡ Less = first-of x y e parts.0 in ((less, all-weaker (λ z. cmp y z ≡ Less) (λ z. cmp x z ≡ Less) (λ z later. nat_list_cmp_total.trans x y z less later) ys h.0), h))
    (λ e. (all-add le (λ z. cmp y z ≡ Less) x ys (turned x y e) h.0, set-add x ys parts.1 h.1))

-- ---- items that differ, in order

-- none of the items is in the list
abbrev AreNew : List Text → List Text → Type 0
AreNew bag items = list_any (has_name bag) items ≡ false

-- with one item more in the list, that isn't among the items
new-add : (x : Text) (bag items : List Text) → is_among itself items x ≡ false → AreNew bag items → AreNew (add le x bag) items
new-add x bag [] apart new = refl
new-add x bag (y ∷ ys) apart new =
    let others = or_parts (bytes_eq y x) (is_among itself ys x) apart in
    let news = or_parts (has_name bag y) (list_any (has_name bag) ys) new in
    or_from (has_name (add le x bag) y) (list_any (has_name (add le x bag)) ys)
    (any-add le (λ other. bytes_eq other y) x bag ∙ or_from (bytes_eq x y) (has_name bag y) (other-turned x y others.0) news.0)
    (new-add x bag ys others.1 news.1)

set-fold : (items bag : List Text) → has_twice itself items ≡ false → AreNew bag items → IsOrderedSet bag → IsOrderedSet (fold (λ bag item. add le item bag) bag items)
set-fold [] bag once new h = h
set-fold (x ∷ xs) bag once new h =
    let others = or_parts (is_among itself xs x) (has_twice itself xs) once in
    let news = or_parts (has_name bag x) (list_any (has_name bag) xs) new in
    set-fold xs (add le x bag) others.1 (new-add x bag xs others.0 news.1) (set-add x bag news.0 h)

none-new : (items : List Text) → AreNew [] items
none-new [] = refl
none-new (x ∷ xs) = none-new xs

-- a list that names nothing twice, in order
pub set-in_order : (items : List Text) → has_twice itself items ≡ false → IsOrderedSet (in_order items)
unfolding IsStrictlySortedBy
set-in_order items once = set-fold items [] once (none-new items) tt

-- ---- lists of a command

twice-map : {A : Type 0} (text : A → Text) (items : List A) → has_twice itself (map text items) ≡ has_twice text items
twice-map text [] = refl
twice-map text (x ∷ xs) = λ i. list_any_of_map (λ other. bytes_eq other (text x)) text xs i || twice-map text xs i

pub set-texts : {A : Type 0} (text : A → Text) (items : List A) → has_twice text items ≡ false → IsOrderedSet (in_order (map text items))
set-texts text items once = set-in_order (map text items) (twice-map text items ∙ once)

-- ---- a set names nothing twice

among-below : (x : Text) (ys : List Text) → AllByRecursion (λ y. cmp x y ≡ Less) ys → is_among itself ys x ≡ false
among-below x [] below = refl
among-below x (y ∷ ys) below = or_from (bytes_eq y x) (is_among itself ys x) (later-other x y below.0) (among-below x ys below.1)

twice-set : (xs : List Text) → IsOrderedSet xs → has_twice itself xs ≡ false
unfolding IsStrictlySortedBy
twice-set [] h = refl
twice-set (x ∷ xs) h = or_from (is_among itself xs x) (has_twice itself xs) (among-below x xs h.0) (twice-set xs h.1)

-- ---- amended lists

-- what wasn't there isn't left
new-kept : {A : Type 0} (text : A → Text) (test : Text → Bool) (old : List Text) (added : List A) → adds_what_is_there text old added ≡ false → AreNew (in_order (filter test old)) (map text added)
new-kept text test old added new =
    let left : List Text = in_order (filter test old) in
    list_any_of_map (has_name left) text added
    ∙ none-weaker (λ x. has_name old (text x)) (λ x. has_name left (text x)) (λ x none. has_name-in_order (filter test old) (text x) ∙ has_name-filter test old (text x) ∙ and_right (test (text x)) _ none) added new

-- a set stays one, where what is added differs and wasn't there
pub set-amended : {A : Type 0} (text : A → Text) (old : List Text) (removed added : List A) → has_twice text added ≡ false → adds_what_is_there text old added ≡ false → IsOrderedSet old → IsOrderedSet (amended text old removed added)
set-amended text old removed added once new h =
    let left : List Text = kept text old removed in
    let test : Text → Bool = λ name. not (is_among text removed name) in
    subst IsOrderedSet (sym (fold_append (λ bag item. add le item bag) [] left (map text added)))
    (set-fold (map text added) (in_order left) (twice-map text added ∙ once) (new-kept text test old added new) (set-in_order left (twice-set left (IsStrictlySortedBy-filter cmp test old h))))

-- ---- a host under a new name

-- that wasn't there
pub set-renamed : (old new : Text) (hosts : List Text) → has_name hosts new ≡ false → IsOrderedSet hosts → IsOrderedSet (renamed old new hosts)
set-renamed old new hosts absent h =
    let others : List Text = filter (λ host. not (bytes_eq host old)) hosts in
    cond_both (has_name hosts old) (add le new others) hosts IsOrderedSet
    (λ e. set-add new others (has_name-filter (λ host. not (bytes_eq host old)) hosts new ∙ and_right (not (bytes_eq new old)) _ absent) (IsStrictlySortedBy-filter cmp (λ host. not (bytes_eq host old)) hosts h)) (λ e. h)

-- ---- how many items such lists have: in order

pub length-add : (x : Text) (ys : List Text) → length (add le x ys) ≡ length ys + 1
unfolding add
length-add x [] = refl
length-add x (y ∷ ys) = cond_both (le x y) (x ∷ y ∷ ys) (y ∷ add le x ys) (λ zs. length zs ≡ length (y ∷ ys) + 1) (λ e. omega arith)
    (λ e. omega (arith, length-add x ys))

length-fold : (items bag : List Text) → length (fold (λ bag item. add le item bag) bag items) ≡ length items + length bag
length-fold [] bag = omega arith
length-fold (x ∷ xs) bag = length-fold xs (add le x bag) ∙ omega (arith, length-add x bag)

pub length-in_order : (items : List Text) → length (in_order items) ≡ length items
length-in_order items = length-fold items [] ∙ omega arith

-- ---- of lists of a command

pub within-texts : {A : Type 0} (text : A → Text) (most : ℕ) (items : List A) → nat_lt most (length items) ≡ false → length (in_order (map text items)) ≤ most
within-texts text most items fits = grind (arith, nat_tests, fits, length-in_order (map text items), length-map items text)

pub within-items : (most : ℕ) (items : List Text) → nat_lt most (length items) ≡ false → length (in_order items) ≤ most
within-items most items fits = grind (arith, nat_tests, fits, length-in_order items)

-- what an update leaves is no more than may be
pub within-amended : {A : Type 0} (text : A → Text) (most : ℕ) (old : List Text) (removed added : List A) → is_over text most old removed added ≡ false → length (amended text old removed added) ≤ most
within-amended text most old removed added fits =
    grind (arith, nat_tests, fits, length-in_order (kept text old removed ++ map text added), length-append (kept text old removed) (map text added), length-map added text)

-- ---- and with a host under a new name

pub some-kept : (test : Text → Bool) (xs : List Text) → list_any test xs ≡ true → 1 ≤ length (filter test xs)
some-kept test [] e = absurd (let never : false ≡ true = e in cc)
some-kept test (x ∷ xs) e = elim (test x) as (λ (b : Bool). (b || list_any test xs) ≡ true → 1 ≤ length (cond b (x ∷ filter test xs) (filter test xs)))
    [ true ↦ λ e. omega arith | false ↦ λ e. some-kept test xs e ] e

pub within-renamed : (old new : Text) (hosts : List Text) (most : ℕ) → length hosts ≤ most → length (renamed old new hosts) ≤ most
within-renamed old new hosts most few =
    let others : List Text = filter (λ host. not (bytes_eq host old)) hosts in
    cond_both (has_name hosts old) (add le new others) hosts (λ names. length names ≤ most)
    (λ e. omega (arith, few, length-add new others, length-filter_both (λ host. bytes_eq host old) (λ host. not (bytes_eq host old)) (λ host. refl) hosts, some-kept (λ host. bytes_eq host old) hosts e)) (λ e. few)
