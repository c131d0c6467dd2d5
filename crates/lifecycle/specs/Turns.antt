-- The years by which a domain renews itself up to a moment (RFC 3915, 3.1).
use Rattle.std.specs.Prelude.{ℕ, zero, suc, ◌+◌, nat_lt, Bool, if◌then◌else◌}
use Rattle.calendar.specs.Moment.{plus_years}
use Rattle.objects.specs.declared.domain.Domain.{Domain}

-- the least number that passes the test, sought up to n
unfoldable pub least : ℕ → (ℕ → Bool) → ℕ
least zero test = zero
least (suc n) test = if test 0 then 0 else suc (least n (λ k. test (suc k)))

-- the least number of years more with which the domain expires after t; it is never above t + 1
unfoldable pub turns : Domain → ℕ → ℕ
turns d t = least (suc t) (λ k. nat_lt t (plus_years d.created (d.years + k)))
