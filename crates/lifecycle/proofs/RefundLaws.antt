-- What is given back is what the balance rises by, and it is given back once.
use Rattle.std.proofs.Common.{◌≡◌, ℕ, ◌+◌, Bool, true, false, cond, List, [], ◌∷◌, map, Some, refl, sym, ap, ◌∙◌, arith, pos, ◌+ℤ◌}
use Rattle.std.proofs.lemmas.{Int.ints, List.Sums.sum_by-cons}
use Rattle.std.specs.List.{filter, sum_by}
use Rattle.accounts.specs.{declared.line.{Line.Line}, Lines.{amount, balance, in_order, is_on}}
use Rattle.accounts.proofs.LineLaws.{balance-bag_of}
use Rattle.basis.specs.Bag.{add, bag_of}
use Rattle.policy.specs.Rules.{PolicyRules}
use Rattle.lifecycle.specs.{declared.{change.RunningRefund.RunningRefund, refund.GivenBack.GivenBack}, Changes.refunded_by}
use Rattle.lifecycle.specs.{Refunds.{IsGivenBack, cents_back, given_back, is_given_back, years_back}}

-- ---- sums over bags

module _ {A : Type 0} (f : A → ℕ) (le : A → A → Bool) where
  sum-add : (x : A) (ys : List A) → sum_by f (add le x ys) ≡ f x + sum_by f ys
  unfolding add
  sum-add x [] = sum_by-cons f x []
  sum-add x (y ∷ ys) = grind (arith, sum-add x ys, sum_by-cons f x (y ∷ ys), sum_by-cons f y ys, sum_by-cons f y (add le x ys))

  pub sum-bag_of : (xs : List A) → sum_by f (bag_of le xs) ≡ sum_by f xs
  unfolding bag_of
  sum-bag_of [] = refl
  sum-bag_of (x ∷ xs) = sum-add x (bag_of le xs) ∙ ap (λ n. f x + n) (sum-bag_of xs) ∙ sym (sum_by-cons f x xs)

  sum-none : {B : Type 0} (g : B → A) → ((x : B) → f (g x) ≡ 0) → (xs : List B) → sum_by f (map g xs) ≡ 0
  sum-none g none [] = refl
  sum-none g none (x ∷ xs) = sum_by-cons f (g x) (map g xs) ∙ omega (arith, none x, sum-none g none xs)

module _ {A : Type 0} (f : A → ℕ) (part : A → Bool) (none : (x : A) → part x ≡ false → f x ≡ 0) where
  -- what is nothing for all others is added up over a part alone
  sum-filter : (xs : List A) → sum_by f (filter part xs) ≡ sum_by f xs
  sum-filter [] = refl
  sum-filter (x ∷ xs) = grind (arith, none x, sum-filter xs, sum_by-cons f x xs, sum_by-cons f x (filter part xs))

-- ---- one line

module _ (p : PolicyRules) (r : RunningRefund) where
  abbrev back : Line → Line
  back = refunded_by p r

  amount-rises : (l : Line) → amount (back l) ≡ amount l +ℤ pos (cents_back p r l)
  amount-rises l = by (is_given_back p r l) refl
    where
      by : (b : Bool) → is_given_back p r l ≡ b → amount (cond b (record l { refunded = Some r.moment }) l) ≡ amount l +ℤ pos (cond b l.cents 0)
      by true e = grind (arith, ints, e)
      by false e = omega (arith, ints)

  not-again : (l : Line) → is_given_back p r (back l) ≡ false
  not-again l = by (is_given_back p r l) refl
    where
      by : (b : Bool) → is_given_back p r l ≡ b → is_given_back p r (cond b (record l { refunded = Some r.moment }) l) ≡ false
      by true e = grind arith
      by false e = e

  no-cents : (l : Line) → cents_back p r (back l) ≡ 0
  no-cents l = ap (λ (b : Bool). cond b (back l).cents 0) (not-again l)

  no-years : (l : Line) → years_back p r (back l) ≡ 0
  no-years l = ap (λ (b : Bool). cond b (back l).years 0) (not-again l)

  -- ---- all lines

  all-rise : (ls : List Line) → balance (map back ls) ≡ balance ls +ℤ pos (sum_by (cents_back p r) ls)
  unfolding balance
  all-rise [] = omega (arith, ints)
  all-rise (l ∷ ls) = omega (arith, ints, amount-rises l, all-rise ls, sum_by-cons (cents_back p r) l ls)

  pub is-given-back : (ls : List Line) (given : GivenBack) → given ≡ given_back p r ls → IsGivenBack p r ls given
  is-given-back ls given e = record {
    value = e;
    rises = balance-bag_of (map back ls) ∙ all-rise ls ∙ ap (λ (g : GivenBack). balance ls +ℤ pos g.cents) (sym e);
    once = λ i. record {
      cents = (sum-bag_of (cents_back p r) in_order (map back ls) ∙ sum-none (cents_back p r) in_order back no-cents ls) i;
      years = (sum-bag_of (years_back p r) in_order (map back ls) ∙ sum-none (years_back p r) in_order back no-years ls) i;
    };
  }

  -- what is given back doesn't hang on the order of lines
  given_back-bag_of : (ls : List Line) → given_back p r (bag_of in_order ls) ≡ given_back p r ls
  given_back-bag_of ls = λ i. record { cents = sum-bag_of (cents_back p r) in_order ls i; years = sum-bag_of (years_back p r) in_order ls i }

  cents-elsewhere : (l : Line) → is_on r.roid l ≡ false → cents_back p r l ≡ 0
  cents-elsewhere l e = rw e refl

  years-elsewhere : (l : Line) → is_on r.roid l ≡ false → years_back p r l ≡ 0
  years-elsewhere l e = rw e refl

  -- nor on lines of other domains
  pub given_back-part : (ls : List Line) → given_back p r (filter (is_on r.roid) ls) ≡ given_back p r ls
  given_back-part ls = λ i. record {
    cents = sum-filter (cents_back p r) (is_on r.roid) cents-elsewhere ls i;
    years = sum-filter (years_back p r) (is_on r.roid) years-elsewhere ls i;
  }

  pub given_back-on : (lines bag : List Line) → bag_of in_order lines ≡ filter (is_on r.roid) bag → given_back p r lines ≡ given_back p r bag
  given_back-on lines bag e = sym (given_back-bag_of lines) ∙ ap (given_back p r) e ∙ given_back-part bag
