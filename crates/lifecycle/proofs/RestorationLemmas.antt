-- The years of a restoration are counted one by one.
use Rattle.std.proofs.{Common.{◌≡◌, ℕ, suc, ◌+◌, ◌-◌, ◌<◌, ◌≤◌, true, false, not, nat_lt, refl, sym, arith}, lemmas.Bool.Decides.nat_tests}
use Rattle.std.proofs.lemmas.Bool.{not-true, not-false}
use Rattle.calendar.specs.Moment.{plus_years}
use Rattle.calendar.proofs.YearLaws.{plus_years-lt}
use Rattle.objects.specs.declared.domain.Domain.{Domain}
use Rattle.lifecycle.specs.Turns.{turns}
use Rattle.lifecycle.proofs.TurnLaws.{turns-only}

pub lies-ahead : (t e : ℕ) → t < e → false ≡ not (nat_lt t e)
lies-ahead t e lt = let yes : nat_lt t e ≡ true = grind (arith, nat_tests) in rw yes refl

pub has-come : (t e : ℕ) → not (nat_lt t e) ≡ true → e ≤ t
has-come t e is = let no : nat_lt t e ≡ false = not-true (nat_lt t e) is in grind (arith, nat_tests, no)

comes-later : (t e : ℕ) → not (nat_lt t e) ≡ false → t < e
comes-later t e is = let yes : nat_lt t e ≡ true = not-false (nat_lt t e) is in grind (arith, nat_tests, yes)

pub one-more-year : (d : Domain) (t k : ℕ) → not (nat_lt t (plus_years d.created (d.years + k))) ≡ true
    → suc t - plus_years d.created (d.years + (k + 1)) < suc t - plus_years d.created (d.years + k)
one-more-year d t k is = omega (arith, has-come t (plus_years d.created (d.years + k)) is, plus_years-lt d.created (d.years + k) (d.years + (k + 1)) (omega arith))

-- the first number of years that is enough is that of turns
pub enough-years : (d : Domain) (t k : ℕ) → ((j : ℕ) → j < k → plus_years d.created (d.years + j) ≤ t) → not (nat_lt t (plus_years d.created (d.years + k))) ≡ false → k ≡ turns d t
enough-years d t k before is = sym (turns-only d t k (record { after = comes-later t (plus_years d.created (d.years + k)) is; before = before }))
