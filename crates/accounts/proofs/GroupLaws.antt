-- The bag of lines that are kept by their domains.
use Rattle.std.proofs.Common.{◌≡◌, ℕ, ◌+◌, ◌<◌, Bool, true, false, cond, not, ◌||◌, List, [], ◌∷◌, ◌++◌, map, length, Option, Some, None, Result, Ok, Err, refl, sym, ap, subst, ◌∙◌, arith, ℤ, ◌+ℤ◌, ◌-ℤ◌}
use Rattle.std.proofs.lemmas.{Bool.Decides.{Decides-like, same_from_decides}, Cmp.nat_list_cmp_total, Int.ints, List.{append-nil, append_assoc, map-append}, Option.same_Some}
use Rattle.std.proofs.Math.Bool.{or-false}
use Rattle.std.proofs.lemmas.{List.{Elements.filter-append, Folds.list_any-append}, Map.{NonePasses, none_passes_from_lookup}}
use Rattle.std.proofs.lemmas.Map.{Entries.none_past_head, Steps.set_value_same, Keys.{IsDistinct-from_sorted, IsDistinct-tail}}
use Rattle.std.specs.{Prelude.unwrap_or, Bool.Decides, BTreeMap.{insert_entry, is_at}, Cmp.{Equal-is, IsEquivalence, eq_by_cmp_equiv}}
use Rattle.std.specs.{Cmp.Lexicographic.slice_cmp, FinMap.{nat_cmp-IsAntisymmetric, slice_cmp-IsAntisymmetric}}
use Rattle.std.specs.{List.{AllByRecursion, IsDistinct, filter, list_any, Sorted.IsStrictlySortedBy}, Int.{saturate_signed, w128}}
use Rattle.std.specs.{Result.{OnErr, OnOk}, Map.{keys_of, lookup, set_value}, Ordering.{eq_by_cmp, is_eq, nat_cmp}}
use Rattle.std.specs.declared.cmp.Ordering.{Ordering, TheVariants.{Less, Equal, Greater}}
use Rattle.basis.specs.Bag.{add, bag_of, remade, same, taken}
use Rattle.basis.proofs.BagLaws.{add-add, any-bag_of, filter-bag_of, remade-bag_of, taken-absent, taken-add, taken-bag_of, taken-before, taken-present}
use Rattle.objects.specs.declared.roid.Roid.{Roid}
use Rattle.accounts.specs.{declared.line.{Line.Line, LineSwap.LineSwap}, Groups.{IsGroup, IsGrouped, IsSmall, all_lines, lines_at}}
use Rattle.accounts.specs.Lines.{balance, in_order, is_line, is_of, is_on, roid_numbers, swapped_all, swaps_of}
use Rattle.accounts.proofs.LineLaws.{bounded-small, fits, line-told, lines_in_order, roid-Decides, roid_only, same-in_order}

abbrev Group : Type 0
Group = List ℕ × List Line

abbrev by_numbers : List ℕ → List ℕ → Ordering
by_numbers = slice_cmp nat_cmp

abbrev at : List ℕ → List ℕ → Bool
at key = is_at (slice_cmp nat_cmp key)

abbrev bag : List Line → List Line
bag = bag_of in_order

-- the lines belong into the group with this key
abbrev AreUnder : List ℕ → List Line → Type 0
AreUnder key ls = IsGroup (key, ls)

-- ---- a bag with lines more

adds : List Line → List Line → List Line
adds [] lines = lines
adds (l ∷ ls) lines = add in_order l (adds ls lines)

bag-adds : (xs ys : List Line) → bag (xs ++ ys) ≡ adds xs (bag ys)
unfolding bag_of adds
bag-adds [] ys = refl
bag-adds (x ∷ xs) ys = ap (add in_order x) (bag-adds xs ys)

add-adds : (x : Line) (ls lines : List Line) → add in_order x (adds ls lines) ≡ adds ls (add in_order x lines)
unfolding adds
add-adds x [] lines = refl
add-adds x (l ∷ ls) lines = add-add in_order lines_in_order x l (adds ls lines) ∙ ap (add in_order l) (add-adds x ls lines)

adds-adds : (xs ys lines : List Line) → adds xs (adds ys lines) ≡ adds ys (adds xs lines)
unfolding adds
adds-adds [] ys lines = refl
adds-adds (x ∷ xs) ys lines = ap (add in_order x) (adds-adds xs ys lines) ∙ add-adds x ys (adds xs lines)

-- a line behind some
bag-line : (ls rest : List Line) (x : Line) → bag (ls ++ x ∷ rest) ≡ add in_order x (bag (ls ++ rest))
unfolding bag_of
bag-line ls rest x = bag-adds ls (x ∷ rest) ∙ sym (add-adds x ls (bag rest)) ∙ ap (add in_order x) (sym (bag-adds ls rest))

-- ---- the group at a key, and the lines of all others

same_key : (key other : List ℕ) → at key other ≡ true → key ≡ other
same_key key other e = slice_cmp-IsAntisymmetric nat_cmp-IsAntisymmetric key other ((Equal-is (by_numbers key other)).0 e)

numbers_equiv : IsEquivalence (eq_by_cmp by_numbers)
numbers_equiv = eq_by_cmp_equiv nat_list_cmp_total

module _ (key : List ℕ) where
  abbrev others : List Group → List Line
  others gs = all_lines (set_value (at key) gs [])

  -- the group with other lines
  bag-set : (ls ms : List Line) (gs : List Group) → lookup (at key) gs ≡ Some ls → bag (all_lines (set_value (at key) gs ms)) ≡ adds ms (bag (others gs))
  bag-set ls ms [] e = cc
  bag-set ls ms (g ∷ gs) e = by (at key g.0) e (bag-set ls ms gs)
    where
      by : (b : Bool) → cond b (Some g.1) (lookup (at key) gs) ≡ Some ls → (lookup (at key) gs ≡ Some ls → bag (all_lines (set_value (at key) gs ms)) ≡ adds ms (bag (others gs)))
          → bag (all_lines (cond b ((g.0, ms) ∷ gs) (g ∷ set_value (at key) gs ms))) ≡ adds ms (bag (all_lines (cond b ((g.0, []) ∷ gs) (g ∷ set_value (at key) gs []))))
      by true e ih = bag-adds ms (all_lines gs)
      by false e ih =
          bag-adds g.1 (all_lines (set_value (at key) gs ms)) ∙ ap (adds g.1) (ih e) ∙ adds-adds g.1 ms (bag (others gs)) ∙ ap (adds ms) (sym (bag-adds g.1 (others gs)))

  -- none to set
  others-none : (gs : List Group) → NonePasses (at key) gs → set_value (at key) gs [] ≡ gs
  others-none [] none = refl
  others-none (g ∷ gs) none = rw none.0 (ap (λ (hs : List Group). g ∷ hs) (others-none gs none.1))

  bag-parts : (gs : List Group) (o : Option (List Line)) → lookup (at key) gs ≡ o → bag (all_lines gs) ≡ bag (unwrap_or o [] ++ others gs)
  bag-parts gs None e = ap (λ (hs : List Group). bag (all_lines hs)) (sym (others-none gs (none_passes_from_lookup (at key) gs e)))
  bag-parts gs (Some ls) e = ap (λ (hs : List Group). bag (all_lines hs)) (sym (set_value_same (at key) gs ls e)) ∙ bag-set ls ls gs e ∙ sym (bag-adds ls (others gs))

  abbrev IsApart : Line → Type 0
  IsApart l = at key (roid_numbers l.roid) ≡ false

  apart-group : (k : List ℕ) (ls rest : List Line) → at key k ≡ false → AreUnder k ls → AllByRecursion IsApart rest → AllByRecursion IsApart (ls ++ rest)
  apart-group k [] rest e group apart = apart
  apart-group k (l ∷ ls) rest e group apart = (ap (at key) group.0 ∙ e, apart-group k ls rest e group.1 apart)

  apart-all : (gs : List Group) → AllByRecursion IsGroup gs → NonePasses (at key) gs → AllByRecursion IsApart (all_lines gs)
  apart-all [] groups none = tt
  apart-all (g ∷ gs) groups none = apart-group g.0 g.1 (all_lines gs) none.0 groups.0 (apart-all gs groups.1 none.1)

  apart-others : (gs : List Group) → AllByRecursion IsGroup gs → IsDistinct (eq_by_cmp by_numbers) (keys_of gs) → AllByRecursion IsApart (others gs)
  apart-others [] groups distinct = tt
  apart-others (g ∷ gs) groups distinct = by (at key g.0) refl (apart-others gs groups.1 (IsDistinct-tail (eq_by_cmp by_numbers) g.0 (keys_of gs) distinct))
    where
      by : (b : Bool) → at key g.0 ≡ b → AllByRecursion IsApart (others gs) → AllByRecursion IsApart (all_lines (cond b ((g.0, []) ∷ gs) (g ∷ set_value (at key) gs [])))
      by true e ih = apart-all gs groups.1 (none_past_head numbers_equiv key g gs distinct e)
      by false e ih = apart-group g.0 g.1 (others gs) e groups.0 ih

  under : (gs : List Group) → AllByRecursion IsGroup gs → AreUnder key (lines_at key gs)
  under [] groups = tt
  under (g ∷ gs) groups = by (at key g.0) refl (under gs groups.1)
    where
      by : (b : Bool) → at key g.0 ≡ b → AreUnder key (lines_at key gs) → AreUnder key (unwrap_or (cond b (Some g.1) (lookup (at key) gs)) [])
      by true e ih = rw (same_key key g.0 e) groups.0
      by false e ih = ih

  -- ---- groups stay groups

  groups-set : (w : List Line) (gs : List Group) → AllByRecursion IsGroup gs → AreUnder key w → AllByRecursion IsGroup (set_value (at key) gs w)
  groups-set w [] groups group = tt
  groups-set w (g ∷ gs) groups group = by (at key g.0) refl (groups-set w gs groups.1 group)
    where
      by : (b : Bool) → at key g.0 ≡ b → AllByRecursion IsGroup (set_value (at key) gs w) → AllByRecursion IsGroup (cond b ((g.0, w) ∷ gs) (g ∷ set_value (at key) gs w))
      by true e ih = (rw (sym (same_key key g.0 e)) group, groups.1)
      by false e ih = (groups.0, ih)

  groups-insert : (w : List Line) (gs : List Group) → AllByRecursion IsGroup gs → AreUnder key w → AllByRecursion IsGroup (insert_entry by_numbers gs key w)
  groups-insert w [] groups group = (group, tt)
  groups-insert w (g ∷ gs) groups group = by (by_numbers key g.0) refl (groups-insert w gs groups.1 group)
    where
      by : (o : Ordering) → by_numbers key g.0 ≡ o → AllByRecursion IsGroup (insert_entry by_numbers gs key w) → AllByRecursion IsGroup (insert_entry by_numbers (g ∷ gs) key w)
      by Less o ih = rw o (group, groups)
      by Equal o ih = rw o (rw (sym (same_key key g.0 (ap is_eq o))) group, groups.1)
      by Greater o ih = rw o (groups.0, ih)

  -- a line in a group of its own
  bag-insert : (x : Line) (gs : List Group) → lookup (at key) gs ≡ None → bag (all_lines (insert_entry by_numbers gs key (x ∷ []))) ≡ add in_order x (bag (all_lines gs))
  unfolding bag_of
  bag-insert x [] e = refl
  bag-insert x (g ∷ gs) e = by (by_numbers key g.0) refl e (bag-insert x gs)
    where
      by : (o : Ordering) → by_numbers key g.0 ≡ o → cond (is_eq o) (Some g.1) (lookup (at key) gs) ≡ None
          → (lookup (at key) gs ≡ None → bag (all_lines (insert_entry by_numbers gs key (x ∷ []))) ≡ add in_order x (bag (all_lines gs)))
          → bag (all_lines (insert_entry by_numbers (g ∷ gs) key (x ∷ []))) ≡ add in_order x (bag (g.1 ++ all_lines gs))
      by Less o none ih = rw o refl
      by Equal o none ih = cc
      by Greater o none ih = rw o (bag-adds g.1 (all_lines (insert_entry by_numbers gs key (x ∷ []))) ∙ ap (adds g.1) (ih none) ∙ sym (add-adds x g.1 (bag (all_lines gs))) ∙ ap (add in_order x) (sym (bag-adds g.1 (all_lines gs))))

-- ---- the lines on a domain

at-Decides : (key other : List ℕ) → Decides (at key other) (key ≡ other)
at-Decides key other = (same_key key other, λ e. ap (at key) (sym e) ∙ numbers_equiv.refl key)

of-Decides : (roid : Roid) (o : Option Roid) → Decides (is_of roid o) (roid_numbers (Some roid) ≡ roid_numbers o)
of-Decides roid None = (λ e. cc, λ e. cc)
of-Decides roid (Some other) = Decides-like _ (λ e. ap (λ (r : Roid). roid_numbers (Some r)) (sym e)) (λ e. sym (same_Some roid other (roid_only (Some roid) (Some other) [] [] e).0)) (roid-Decides other roid)

-- a line is on a domain where it stands under its numbers
on-key : (roid : Roid) (o : Option Roid) → is_of roid o ≡ at (roid_numbers (Some roid)) (roid_numbers o)
on-key roid o = same_from_decides _ _ (of-Decides roid o) (at-Decides (roid_numbers (Some roid)) (roid_numbers o))

swaps-made : (f : Line → Line) (ls lines : List Line) → swapped_all (swaps_of f ls) (adds ls lines) ≡ adds (map f ls) lines
unfolding adds
swaps-made f [] lines = refl
swaps-made f (l ∷ ls) lines = by (is_line (f l) l) refl (swaps-made f ls)
  where
    by : (b : Bool) → is_line (f l) l ≡ b → ((rest : List Line) → swapped_all (swaps_of f ls) (adds ls rest) ≡ adds (map f ls) rest)
        → swapped_all (map (λ (m : Line). let x : LineSwap = record { from = m; to = f m } in x) (cond (not b) (l ∷ filter (λ (m : Line). not (is_line (f m) m)) ls) (filter (λ (m : Line). not (is_line (f m) m)) ls))) (add in_order l (adds ls lines))
        ≡ add in_order (f l) (adds (map f ls) lines)
    by true e made =
        ap (swapped_all (swaps_of f ls)) (add-adds l ls lines) ∙ made (add in_order l lines) ∙ sym (add-adds l (map f ls) lines)
        ∙ ap (λ (x : Line). add in_order x (adds (map f ls) lines)) (sym (same-in_order (f l) l (sym (line-told (f l) l) ∙ e)))
    by false e made =
        ap (λ (ms : List Line). swapped_all (swaps_of f ls) (add in_order (f l) ms)) (taken-add in_order lines_in_order l (adds ls lines))
        ∙ ap (swapped_all (swaps_of f ls)) (add-adds (f l) ls lines) ∙ made (add in_order (f l) lines) ∙ sym (add-adds (f l) (map f ls) lines)

module _ (roid : Roid) where
  abbrev own : List ℕ
  own = roid_numbers (Some roid)

  filter-own : (ls : List Line) → AreUnder own ls → filter (is_on roid) ls ≡ ls
  filter-own [] group = refl
  filter-own (l ∷ ls) group = rw (on-key roid l.roid ∙ ap (at own) group.0 ∙ numbers_equiv.refl own) (ap (λ ms. l ∷ ms) (filter-own ls group.1))

  filter-apart : (ls : List Line) → AllByRecursion (IsApart own) ls → filter (is_on roid) ls ≡ []
  filter-apart [] apart = refl
  filter-apart (l ∷ ls) apart = rw (on-key roid l.roid ∙ apart.0) (filter-apart ls apart.1)

  -- they are those of its group
  pub on-found : (gs : List Group) → IsGrouped gs → bag (lines_at own gs) ≡ filter (is_on roid) (bag (all_lines gs))
  on-found gs h =
      let ls = lines_at own gs in
      let apart = apart-others own gs h.under (IsDistinct-from_sorted by_numbers (keys_of gs) h.sorted) in
      ap (bag_of in_order) (sym (filter-append (is_on roid) ls (others own gs) ∙ (λ i. filter-own ls (under own gs h.under) i ++ filter-apart (others own gs) apart i) ∙ append-nil ls))
      ∙ sym (filter-bag_of in_order lines_in_order (is_on roid) (ls ++ others own gs))
      ∙ ap (filter (is_on roid)) (sym (bag-parts own gs (lookup (at own) gs) refl))

  module _ (f : Line → Line) (elsewhere : (l : Line) → is_on roid l ≡ false → f l ≡ l) where
    map-apart : (ls : List Line) → AllByRecursion (IsApart own) ls → map f ls ≡ ls
    map-apart [] apart = refl
    map-apart (l ∷ ls) apart = λ i. elsewhere l (on-key roid l.roid ∙ apart.0) i ∷ map-apart ls apart.1 i

    -- to put one line for another, for each of a domain's that a change changes, is to make the change
    pub swaps-found : (gs : List Group) → IsGrouped gs → swapped_all (swaps_of f (lines_at own gs)) (bag (all_lines gs)) ≡ remade in_order f (bag (all_lines gs))
    swaps-found gs h =
        let ls = lines_at own gs in
        let parts = bag-parts own gs (lookup (at own) gs) refl in
        let apart = apart-others own gs h.under (IsDistinct-from_sorted by_numbers (keys_of gs) h.sorted) in
        ap (swapped_all (swaps_of f ls)) (parts ∙ bag-adds ls (others own gs)) ∙ swaps-made f ls (bag (others own gs)) ∙ sym (bag-adds (map f ls) (others own gs))
        ∙ ap (bag_of in_order) (sym (map-append f ls (others own gs) ∙ ap (λ (ms : List Line). map f ls ++ ms) (map-apart (others own gs) apart)))
        ∙ sym (ap (remade in_order f) parts ∙ remade-bag_of in_order lines_in_order f (ls ++ others own gs))

-- ---- a line put

under-push : (key : List ℕ) (ls : List Line) (x : Line) → AreUnder key ls → roid_numbers x.roid ≡ key → AreUnder key (ls ++ x ∷ [])
under-push key [] x group e = (e, tt)
under-push key (l ∷ ls) x group e = (group.0, under-push key ls x group.1 e)

module _ (key : List ℕ) (gs ns : List Group) (ls ms : List Line) (h : IsGrouped gs) (e : Some ls ≡ lookup (at key) gs) (n : ns ≡ set_value (at key) gs ms) where
  here : lines_at key gs ≡ ls
  here = ap (λ (o : Option (List Line)). unwrap_or o []) (sym e)

  set-grouped : IsStrictlySortedBy by_numbers (keys_of ns) → AreUnder key ms → IsGrouped ns
  set-grouped sorted group = record { sorted = sorted; under = subst (AllByRecursion IsGroup) (sym n) (groups-set key ms gs h.under group) }

  set-parts : bag (all_lines ns) ≡ bag (ms ++ others key gs)
  set-parts = ap (λ (m : List Group). bag (all_lines m)) n ∙ bag-set key ls ms gs (sym e) ∙ sym (bag-adds ms (others key gs))

  set-back : ms ≡ ls → ns ≡ gs
  set-back t = n ∙ ap (set_value (at key) gs) t ∙ set_value_same (at key) gs ls (sym e)

  -- if there was memory for it
  module _ {E : Type 0} (x : Line) where
    pub push-grouped : (r : Result Unit E) → IsStrictlySortedBy by_numbers (keys_of ns) → roid_numbers x.roid ≡ key → OnOk r (ms ≡ ls ++ x ∷ []) → OnErr r (ms ≡ ls) → IsGrouped ns
    push-grouped (Ok u) sorted is ok err = set-grouped sorted (subst (AreUnder key) (sym ok) (under-push key ls x (subst (AreUnder key) here (under key gs h.under)) is))
    push-grouped (Err u) sorted is ok err = subst IsGrouped (sym (set-back err)) h

    pub push-ok : (r : Result Unit E) → OnOk r (ms ≡ ls ++ x ∷ []) → OnOk r (bag (all_lines ns) ≡ add in_order x (bag (all_lines gs)))
    push-ok (Ok u) ok =
        set-parts ∙ ap (bag_of in_order) (ap (λ (ws : List Line). ws ++ others key gs) ok ∙ append_assoc ls (x ∷ []) (others key gs))
        ∙ bag-line ls (others key gs) x ∙ ap (add in_order x) (sym (bag-parts key gs (Some ls) (sym e)))
    push-ok (Err u) ok = ok

    pub push-err : (r : Result Unit E) → OnErr r (ms ≡ ls) → OnErr r (bag (all_lines ns) ≡ bag (all_lines gs))
    push-err (Ok u) err = err
    push-err (Err u) err = ap (λ (m : List Group). bag (all_lines m)) (set-back err)

-- in a group of its own
module _ (key : List ℕ) (x : Line) (gs ns : List Group) (ms : List Line) (n : ns ≡ insert_entry by_numbers gs key ms) (t : ms ≡ x ∷ []) where
  pub insert-grouped : IsGrouped gs → IsStrictlySortedBy by_numbers (keys_of ns) → roid_numbers x.roid ≡ key → IsGrouped ns
  insert-grouped h sorted is = record {
    sorted = sorted;
    under = subst (AllByRecursion IsGroup) (sym n) (groups-insert key ms gs h.under (subst (AreUnder key) (sym t) (is, tt)));
  }

  pub insert-bag : None ≡ lookup (at key) gs → bag (all_lines ns) ≡ add in_order x (bag (all_lines gs))
  insert-bag none = ap (λ (m : List Group). bag (all_lines m)) (n ∙ ap (insert_entry by_numbers gs key) t) ∙ bag-insert key x gs (sym none)

-- ---- a line taken back

abbrev any : Line → List Line → Bool
any x ls = list_any (same in_order x) ls

under-taken : (key : List ℕ) (x : Line) (ls : List Line) → AreUnder key ls → AreUnder key (taken in_order x ls)
unfolding taken
under-taken key x [] group = tt
under-taken key x (l ∷ ls) group = by (same in_order x l) (under-taken key x ls group.1)
  where
    by : (b : Bool) → AreUnder key (taken in_order x ls) → AreUnder key (cond b ls (l ∷ taken in_order x ls))
    by true ih = group.1
    by false ih = (group.0, ih)

module _ (x : Line) where
  abbrev place : List ℕ
  place = roid_numbers x.roid

  -- no group but its own has a line
  same-apart : (l : Line) (b : Bool) → same in_order x l ≡ b → IsApart place l → b ≡ false
  same-apart l false e apart = refl
  same-apart l true e apart = sym (numbers_equiv.refl place) ∙ ap (λ (m : Line). at place (roid_numbers m.roid)) (same-in_order x l e) ∙ apart

  any-apart : (ls : List Line) → AllByRecursion (IsApart place) ls → any x ls ≡ false
  any-apart [] apart = refl
  any-apart (l ∷ ls) apart = rw (same-apart l (same in_order x l) refl apart.0) (any-apart ls apart.1)

  module _ (gs : List Group) (h : IsGrouped gs) where
    none-other : any x (others place gs) ≡ false
    none-other = any-apart (others place gs) (apart-others place gs h.under (IsDistinct-from_sorted by_numbers (keys_of gs) h.sorted))

    -- a line is there where its group has it
    pub any-here : any x (lines_at place gs) ≡ any x (bag (all_lines gs))
    any-here = sym (ap (any x) (bag-parts place gs (lookup (at place) gs) refl)
        ∙ any-bag_of in_order (same in_order x) (lines_at place gs ++ others place gs) ∙ list_any-append (same in_order x) (lines_at place gs) (others place gs)
        ∙ ap (λ b. any x (lines_at place gs) || b) none-other ∙ or-false (any x (lines_at place gs)))

    -- where it isn't
    pub gone : any x (lines_at place gs) ≡ false → taken in_order x (bag (all_lines gs)) ≡ bag (all_lines gs)
    gone none = taken-absent in_order x (bag (all_lines gs)) (sym any-here ∙ none)

    -- where it is
    pub back : any x (lines_at place gs) ≡ true → add in_order x (taken in_order x (bag (all_lines gs))) ≡ bag (all_lines gs)
    back there =
        ap (add in_order x) (taken-bag_of in_order lines_in_order x (all_lines gs))
        ∙ sym (taken-present in_order lines_in_order x (all_lines gs) (sym (any-bag_of in_order (same in_order x) (all_lines gs)) ∙ sym any-here ∙ there))

    module _ (ns : List Group) (ls ms : List Line) (e : Some ls ≡ lookup (at place) gs) (n : ns ≡ set_value (at place) gs ms) (t : ms ≡ taken in_order x ls) where
      pub taken-grouped : IsStrictlySortedBy by_numbers (keys_of ns) → IsGrouped ns
      taken-grouped sorted = set-grouped place gs ns ls ms h e n sorted (subst (AreUnder place) (sym t) (under-taken place x ls (subst (AreUnder place) (here place gs ns ls ms h e n) (under place gs h.under))))

      pub taken-there : bag (all_lines ns) ≡ taken in_order x (bag (all_lines gs))
      taken-there =
          set-parts place gs ns ls ms h e n ∙ ap (λ (ws : List Line). bag (ws ++ others place gs)) t
          ∙ sym (ap (taken in_order x) (bag-parts place gs (Some ls) (sym e)) ∙ taken-bag_of in_order lines_in_order x (ls ++ others place gs)
          ∙ ap (bag_of in_order) (taken-before in_order x ls (others place gs) none-other))

-- ---- what is counted

pub length-add : (x : Line) (ls : List Line) → length (add in_order x ls) ≡ length ls + 1
unfolding add
length-add x [] = refl
length-add x (y ∷ ys) = grind (arith, length-add x ys)

-- so many small lines, and one more
pub small-add : (x : Line) (ls : List Line) → IsSmall x → AllByRecursion IsSmall ls → AllByRecursion IsSmall (add in_order x ls)
unfolding add
small-add x [] small all = (small, tt)
small-add x (y ∷ ys) small all = by (in_order x y) (small-add x ys small all.1)
  where
    by : (b : Bool) → AllByRecursion IsSmall (add in_order x ys) → AllByRecursion IsSmall (cond b (x ∷ y ∷ ys) (y ∷ add in_order x ys))
    by true more = (small, all)
    by false more = (all.0, more)

-- and without it
pub small-rest : (x : Line) (ls : List Line) → AllByRecursion IsSmall (add in_order x ls) → AllByRecursion IsSmall ls
unfolding add
small-rest x [] all = tt
small-rest x (y ∷ ys) all = by (in_order x y) all (small-rest x ys)
  where
    by : (b : Bool) → AllByRecursion IsSmall (cond b (x ∷ y ∷ ys) (y ∷ add in_order x ys)) → (AllByRecursion IsSmall (add in_order x ys) → AllByRecursion IsSmall ys) → AllByRecursion IsSmall (y ∷ ys)
    by true more ih = more.1
    by false more ih = (more.0, ih more.1)

-- ---- sums in 128 bits

module _ (new : List Line) (few : length new < 4_611_686_018_427_387_904) (small : AllByRecursion IsSmall new) where
  same-sum : saturate_signed w128 (balance new) ≡ balance new
  same-sum = let bounded = bounded-small new small in fits (balance new) (omega (arith, ints, bounded.low, few)) (omega (arith, ints, bounded.high, few))

  -- a sum is kept by what is gained
  pub sum-fits : (old : List Line) (all gain r : ℤ) → all ≡ balance old → balance new ≡ balance old +ℤ gain → r ≡ saturate_signed w128 (all +ℤ gain) → r ≡ balance new
  sum-fits old all gain r e more sat = sat ∙ ap (saturate_signed w128) (ap (λ z. z +ℤ gain) e ∙ sym more) ∙ same-sum

  -- and by what is lost
  pub rest-fits : (old : List Line) (a all loss r : ℤ) → all ≡ balance old → loss ≡ a → balance old ≡ a +ℤ balance new → r ≡ saturate_signed w128 (all -ℤ loss) → r ≡ balance new
  rest-fits old a all loss r e f less sat =
      let rest : all -ℤ loss ≡ balance new = omega (arith, ints, e, f, less) in
      sat ∙ ap (saturate_signed w128) rest ∙ same-sum
