-- The years for which a domain is registered or renewed at once (RFC 5731, 3.2.1 and 3.2.3).
use Rattle.std.specs.Prelude.{ℕ, ◌≤◌, ◌&&◌, Bool, nat_le, Option, Some, None, if◌then◌else◌}

-- from one to ten
abbrev pub IsYears : ℕ → Type 0
IsYears n = (1 ≤ n) × (n ≤ 10)

abbrev pub is_years : ℕ → Bool
is_years n = nat_le 1 n && nat_le n 10

abbrev pub years_of : ℕ → Option ℕ
years_of n = if is_years n then Some n else None
