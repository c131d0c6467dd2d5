-- What is swapped among the lines of one domain is swapped among all.
use Rattle.std.proofs.Common.{arith, ◌≡◌, true, false, not, List, [], ◌∷◌, ◌++◌, map, filter, refl, sym, ap, ◌∙◌}
use Rattle.sqlaccounts.proofs.Words.{add, and_parts, bag_of, in_order, is_on, Line, lines_in_order, LineSwap}
use Rattle.sqlaccounts.proofs.Words.{list_all, list_any, map-append, remade, remade-bag_of, Roid, same, same-in_order, swapped, swapped_all}
use Rattle.sqlaccounts.proofs.{Words.{taken, taken-bag_of, taken-before}, BagLemmas.{bag-added, bag-bag, bag-parts, map-others}}

module _ (roid : Roid) where
  abbrev others : List Line → List Line
  others ls = filter (λ l. not (is_on roid l)) ls

  -- a line on the domain isn't among the others
  apart : (x : Line) (ls : List Line) → is_on roid x ≡ true → list_any (same in_order x) (others ls) ≡ false
  apart x [] on = refl
  apart x (l ∷ ls) on = grind (arith, apart x ls on, same-in_order x l, on)

  swapped-on : (s : LineSwap) (on ls : List Line) → is_on roid s.from ≡ true → swapped (bag_of in_order (on ++ others ls)) s ≡ bag_of in_order (swapped on s ++ others ls)
  swapped-on s on ls is =
      ap (add in_order s.to) (taken-bag_of in_order lines_in_order s.from (on ++ others ls) ∙ ap (bag_of in_order) (taken-before in_order s.from on (others ls) (apart s.from ls is)))
      ∙ sym (bag-added in_order lines_in_order s.to (taken in_order s.from on) (others ls))

  all-on : (swaps : List LineSwap) (on ls : List Line) → list_all (λ (s : LineSwap). is_on roid s.from) swaps ≡ true
      → swapped_all swaps (bag_of in_order (on ++ others ls)) ≡ bag_of in_order (swapped_all swaps on ++ others ls)
  all-on [] on ls are = refl
  all-on (s ∷ swaps) on ls are =
      let both = and_parts (is_on roid s.from) (list_all (λ (t : LineSwap). is_on roid t.from) swaps) are in
      ap (swapped_all swaps) (swapped-on s on ls both.0) ∙ all-on swaps (swapped on s) ls both.1

  pub swaps-on : (f : Line → Line) → ((l : Line) → is_on roid l ≡ false → f l ≡ l) → (swaps : List LineSwap) (ls : List Line) → bag_of in_order ls ≡ ls
      → list_all (λ (s : LineSwap). is_on roid s.from) swaps ≡ true → swapped_all swaps (filter (is_on roid) ls) ≡ remade in_order f (filter (is_on roid) ls)
      → swapped_all swaps ls ≡ remade in_order f ls
  swaps-on f out swaps ls bag are made =
      let on : List Line = filter (is_on roid) ls in
      let consistent : ls ≡ bag_of in_order (on ++ others ls) = sym bag ∙ bag-parts in_order lines_in_order (is_on roid) ls in
      ap (swapped_all swaps) consistent ∙ all-on swaps on ls are
      ∙ ap (λ ms. bag_of in_order (ms ++ others ls)) made ∙ bag-bag in_order lines_in_order (map f on) (others ls)
      ∙ ap (λ ms. bag_of in_order (map f on ++ ms)) (sym (map-others (is_on roid) f out ls)) ∙ ap (bag_of in_order) (sym (map-append f on (others ls)))
      ∙ sym (remade-bag_of in_order lines_in_order f (on ++ others ls)) ∙ ap (remade in_order f) (sym consistent)
