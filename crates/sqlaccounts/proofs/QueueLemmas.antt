-- The queue that messages make is the set of them, in their order.
use Rattle.std.proofs.Common.{◌≡◌, ◌+◌, Bool, true, false, not, ◌||◌, length, List, [], ◌∷◌, ◌++◌, fold, filter, Some, refl, sym, ap, ◌∙◌, arith}
use Rattle.std.proofs.lemmas.List.Sums.{fold-append}
use Rattle.std.specs.{BTreeSet.insert_key, Set.remove_key, declared.cmp.Ordering.TheVariants.{Equal}}
use Rattle.sqlaccounts.proofs.Words.{eq_by_cmp, Equal-is, Has, is_eq, is_gt, IsTotalOrder, list_any, Message, message_cmp}
use Rattle.sqlaccounts.proofs.Words.{Ordering, put, put_all, slice_get, some_has, tied_itself}
use Rattle.sqlite_rules.proofs.ListLemmas.{some_from}
use Rattle.accounts.specs.MessageOrder.{message_cmp_total}
use Rattle.accounts.proofs.MessageLaws.{message_cmp_only}

-- ---- a list that its items make, each where it belongs

module _ {K : Type 0} (cmp : K → K → Ordering) (o : IsTotalOrder cmp) (only : (a b : K) → cmp a b ≡ Equal → a ≡ b) where
  abbrev into : K → List K → List K
  into k ks = insert_key cmp ks k

  abbrev among : K → List K → Bool
  among k ks = list_any (eq_by_cmp cmp k) ks

  abbrev all_into : List K → List K → List K
  all_into ks ms = fold (λ q m. into m q) ks ms

  abbrev but : K → List K → List K
  but m ms = filter (λ n. not (eq_by_cmp cmp m n)) ms

  -- it doesn't matter which of two comes first
  turned : (a b : K) (ks : List K) → into a (into b ks) ≡ into b (into a ks)
  turned a b [] = grind (arith, o.antisymm a b, only a b)
  turned a b (x ∷ xs) =
      grind (arith, turned a b xs, o.antisymm a b, o.antisymm x a, o.antisymm x b, o.trans a x b, o.trans b x a, only a b, only a x, only b x)

  again : (m : K) (ks : List K) → into m (into m ks) ≡ into m ks
  again m [] = grind (arith, tied_itself o m)
  again m (x ∷ xs) = grind (arith, tied_itself o m, again m xs)

  turned-all : (m : K) (ks ms : List K) → into m (all_into ks ms) ≡ all_into (into m ks) ms
  turned-all m ks [] = refl
  turned-all m ks (x ∷ xs) = turned-all m (into x ks) xs ∙ ap (λ q. all_into q xs) (turned m x ks)

  -- ---- what is in it

  among-into : (m n : K) (ks : List K) → among m (into n ks) ≡ (is_eq (cmp m n) || among m ks)
  among-into m n [] = refl
  among-into m n (x ∷ xs) = grind (arith, among-into m n xs, only n x)

  pub among-all : (m : K) (ks ms : List K) → among m (all_into ks ms) ≡ (among m ks || among m ms)
  among-all m ks [] = grind arith
  among-all m ks (x ∷ xs) = grind (arith, among-all m (into x ks) xs, among-into m x ks)

  -- ---- one more, and one less

  pub into-there : (m : K) (ks ms : List K) → among m ms ≡ true → into m (all_into ks ms) ≡ all_into ks ms
  into-there m ks [] e = cc
  into-there m ks (x ∷ xs) e = grind (arith, turned-all m (into x ks) xs, only m x, again x ks, into-there m (into x ks) xs, e)

  into-but : (m : K) (ks ms : List K) → into m (all_into ks ms) ≡ into m (all_into ks (but m ms))
  into-but m ks [] = refl
  into-but m ks (x ∷ xs) = grind (arith, turned-all m ks xs, turned-all m (into m ks) xs, only m x, again m ks, into-but m ks xs, into-but m (into x ks) xs)

  lacks : (m : K) (ms : List K) → among m (but m ms) ≡ false
  lacks m [] = refl
  lacks m (x ∷ xs) = grind (arith, lacks m xs)

  pub length-into : (m : K) (ks : List K) → among m ks ≡ false → length (into m ks) ≡ length ks + 1
  length-into m [] e = refl
  length-into m (x ∷ xs) e = grind (arith, length-into m xs, e)

  -- what was put where it wasn't is taken out again
  out-into : (m : K) (ks : List K) → among m ks ≡ false → remove_key (eq_by_cmp cmp m) (into m ks) ≡ ks
  out-into m [] e = grind (arith, tied_itself o m)
  out-into m (x ∷ xs) e = grind (arith, tied_itself o m, out-into m xs, e)

  pub out-all : (m : K) (ms : List K) → among m ms ≡ true → all_into [] (but m ms) ≡ remove_key (eq_by_cmp cmp m) (all_into [] ms)
  out-all m ms e =
      sym (ap (remove_key (eq_by_cmp cmp m)) (sym (into-there m [] ms e) ∙ into-but m [] ms)
      ∙ out-into m (all_into [] (but m ms)) (among-all m [] (but m ms) ∙ lacks m ms))

  pub out-lacking : (m : K) (ks : List K) → among m ks ≡ false → remove_key (eq_by_cmp cmp m) ks ≡ ks
  out-lacking m [] e = refl
  out-lacking m (x ∷ xs) e = grind (arith, out-lacking m xs, e)

  -- ---- the first

  -- one that is there, and after which none stands
  first-in : (m : K) (ks : List K) → into m ks ≡ ks → ((x : K) → among x ks ≡ true → is_gt (cmp m x) ≡ false) → slice_get ks 0 ≡ Some m
  first-in m [] there first = cc
  first-in m (x ∷ xs) there first =
      let least : is_gt (cmp m x) ≡ false = first x (ap (λ b. b || among x xs) (ap is_eq (tied_itself o x))) in
      grind (arith, least, only m x, there)

  pub first-all : (m : K) (ms : List K) → Has ms m → ((x : K) → Has ms x → is_gt (cmp m x) ≡ false) → slice_get (all_into [] ms) 0 ≡ Some m
  first-all m ms has first =
      first-in m (all_into [] ms) (into-there m [] ms (some_from (eq_by_cmp cmp m) ms m has (ap is_eq (tied_itself o m)))) (λ x e.
      let it = some_has (eq_by_cmp cmp x) ms (sym (among-all x [] ms) ∙ e) in
      ap (λ y. is_gt (cmp m y)) (only x it.0 ((Equal-is (cmp x it.0)).0 it.2)) ∙ first it.0 it.1)

-- ---- messages

-- whether two are one
abbrev pub tie : Message → Message → Bool
tie m x = eq_by_cmp message_cmp m x

pub one_from_tie : (m x : Message) → tie m x ≡ true → m ≡ x
one_from_tie m x e = message_cmp_only m x ((Equal-is (message_cmp m x)).0 e)

pub tied : (m : Message) → tie m m ≡ true
tied m = ap is_eq (tied_itself message_cmp_total m)

pub put_all-push : (ms : List Message) (m : Message) → put_all (ms ++ m ∷ []) ≡ put m (put_all ms)
put_all-push ms m = fold-append (λ queue n. put n queue) [] ms (m ∷ [])
