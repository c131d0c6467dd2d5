-- Moments past the last one.
use Rattle.std.proofs.Common.{◌≡◌, ℕ, ◌+◌, ◌<◌, ◌≤◌, arith, Ok, Err, Some, None}
use Rattle.std.proofs.lemmas.Bool.Decides.{nat_tests}
use Rattle.calendar.specs.{declared.moment.Range.Range, Moment.{checked, plus_years}}
use Rattle.objects.specs.declared.domain.Domain.{Domain}
use Rattle.lifecycle.specs.{Periods.passed, Lapse.gained}

pub past_last : (m : ℕ) (r : Range) → 946_684_800 ≤ m → checked m ≡ Err r → 7_258_118_399 < m
past_last m r low e = grind (arith, nat_tests, low, e)

pub not_past : (m n : ℕ) → checked m ≡ Ok n → (m ≡ n) × (m ≤ 7_258_118_399)
not_past m n e = (grind (arith, nat_tests, e), grind (arith, nat_tests, e))

pub not_passed : (l m : ℕ) → l < m → None ≡ passed l m
not_passed l m lt = grind (arith, nat_tests, lt)

-- a year that would pass the last moment is none
pub no_year : (d : Domain) (u : ℕ) → plus_years u 10 < plus_years d.created (d.years + 1) → 0 ≡ gained d u
no_year d u lt = grind (arith, nat_tests, lt)

pub has_passed : (t e m : ℕ) → passed t e ≡ Some m → (e ≡ m) × (e ≤ t)
has_passed t e m h = (grind (arith, nat_tests, h), grind (arith, nat_tests, h))

pub lies_ahead : (t e : ℕ) → passed t e ≡ None → t < e
lies_ahead t e h = grind (arith, nat_tests, h)
