-- How a balance is stored.
use Rattle.std.specs.Prelude.{ℕ, ℤ, List}
use Rattle.std.specs.Int.{w128, to_be_bytes, cast_unsigned}

-- sixteen bytes, two's complement, the highest first
abbrev pub balance_bytes : ℤ → List ℕ
balance_bytes cents = to_be_bytes w128 (cast_unsigned w128 cents)
