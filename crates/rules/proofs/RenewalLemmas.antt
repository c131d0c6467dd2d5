-- A sum of years that no number of 32 bits holds lies past the last moment.
use Rattle.std.proofs.{Common.{◌≡◌, ℕ, ◌-◌, ◌^◌, min, ap, inl, inr, arith}, lemmas.Bool.cases_lt}
use Rattle.calendar.specs.Moment.{capped, plus_years}
use Rattle.calendar.proofs.YearLaws.{plus_years-grows}

pub capped-saturated : (m n : ℕ) → capped (plus_years m (min n (2 ^ 32 - 1))) ≡ capped (plus_years m n)
capped-saturated m n =
    elim (cases_lt n (2 ^ 32)) [
      | inl small ↦ ap (λ k. capped (plus_years m k)) (omega arith)
      | inr large ↦ omega (arith, plus_years-grows m (min n (2 ^ 32 - 1)), plus_years-grows m n)
    ]
