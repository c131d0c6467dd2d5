-- Whoever leaves and whoever comes, counted anew.
use Rattle.std.proofs.Common.{◌≡◌, ℕ, ◌+◌, Option, sym, ap, ◌∙◌}
use Rattle.sqlderived.proofs.Words.{Content, counts_one, counts_own, counts_where, Domain, Holders, incoming_without, is_held_by, is_some_holder}
use Rattle.sqlderived.proofs.Words.{is_written, IsCountedAnew, IsRecounted, maybe_holders_of, sponsor_without}
use Rattle.sqlderived.proofs.{HolderLemmas.{balanced, held-by, leaving}, RecountLemmas.anew-as}

module _ (written : Option ℕ) (before after : Option Domain) (p q : Option Holders) (first : p ≡ maybe_holders_of before) (second : q ≡ maybe_holders_of after) (a b c d : Option ℕ)
    (sponsor_left : a ≡ sponsor_without written p q) (incoming_left : b ≡ incoming_without written p q)
    (sponsor_come : c ≡ sponsor_without written q p) (incoming_come : d ≡ incoming_without written q p) where
  -- the one whose row has been written, and those who leave and come
  abbrev all : Option Holders → ℕ → ℕ
  all o r = counts_own written o r + (counts_own a o r + (counts_own b o r + (counts_own c o r + counts_own d o r)))

  held : (r : ℕ) (x : Option Domain) (o : Option Holders) → o ≡ maybe_holders_of x → counts_where (is_held_by r) x ≡ counts_one (is_some_holder r o)
  held r x o e = held-by r x ∙ ap (λ y. counts_one (is_some_holder r y)) (sym e)

  pub recounted : (xs ys : Content) → IsCountedAnew (all p) (all q) xs ys → IsRecounted before after xs ys
  recounted xs ys =
      anew-as (all p) (all q) (λ r. counts_where (is_held_by r) before) (λ r. counts_where (is_held_by r) after) xs ys (λ r.
      ap (λ n. all p r + n) (held r after q second)
      ∙ balanced (is_written r written) (is_written r a) (is_written r b) (is_written r c) (is_written r d) (is_some_holder r p) (is_some_holder r q)
      ((λ i. counts_one (is_written r (sponsor_left i)) + counts_one (is_written r (incoming_left i))) ∙ leaving r written p q)
      ((λ i. counts_one (is_written r (sponsor_come i)) + counts_one (is_written r (incoming_come i))) ∙ leaving r written q p)
      ∙ sym (ap (λ n. all q r + n) (held r before p first)))
