-- How numbers and moments lie in columns.
use Rattle.std.specs.Prelude.{ℕ, ◌<◌, ◌≤◌, ◌^◌, Bool, ◌&&◌, nat_le, nat_lt, ℤ, pos, negsuc, Option, Some, None, option_map, if◌then◌else◌}
use Rattle.std.specs.Int.{w64, cast_signed, cast_unsigned}
use Rattle.calendar.specs.Moment.{is_moment}

-- ---- written

-- seconds since 1970-01-01T00:00:00Z
abbrev pub moment_column : ℕ → ℤ
moment_column m = pos m

-- NULL where there is none
abbrev pub maybe_moment_column : Option ℕ → Option ℤ
maybe_moment_column m = option_map moment_column m

-- places are counted from 1, in 32 bits
abbrev pub IsPlace : ℕ → Type 0
IsPlace place = (1 ≤ place) × (place < 2 ^ 32)

abbrev pub registrar_column : ℕ → ℤ
registrar_column place = pos place

abbrev pub maybe_registrar_column : Option ℕ → Option ℤ
maybe_registrar_column place = option_map registrar_column place

-- the same 64 bits, two's complement
abbrev pub counter_column : ℕ → ℤ
counter_column n = cast_signed w64 n

abbrev pub years_column : ℕ → ℤ
years_column years = pos years

-- the number as itself, where a column can have it
abbrev pub exact_column : ℕ → Option ℤ
exact_column n = if nat_lt n 9_223_372_036_854_775_808 then Some (pos n) else None

-- ---- read

-- the natural number that a column is, if it is one of these
abbrev pub natural_in : (ℕ → Bool) → ℤ → Option ℕ
natural_in among (pos n) = if among n then Some n else None
natural_in among (negsuc n) = None

-- what is read so, or NULL's none
abbrev pub nullable_in : (ℤ → Option ℕ) → Option ℤ → Option (Option ℕ)
nullable_in read None = Some None
nullable_in read (Some column) = option_map Some (read column)

-- the moment at so many seconds, from the calendar's first to its last
abbrev pub moment_in_column : ℤ → Option ℕ
moment_in_column column = natural_in is_moment column

abbrev pub maybe_moment_in : Option ℤ → Option (Option ℕ)
maybe_moment_in column = nullable_in moment_in_column column

abbrev pub is_place : ℕ → Bool
is_place place = nat_le 1 place && nat_lt place 4_294_967_296

abbrev pub registrar_in : ℤ → Option ℕ
registrar_in column = natural_in is_place column

abbrev pub maybe_registrar_in : Option ℤ → Option (Option ℕ)
maybe_registrar_in column = nullable_in registrar_in column

abbrev pub fits_years_column : ℕ → Bool
fits_years_column years = nat_lt years 4_294_967_296

abbrev pub years_in_column : ℤ → Option ℕ
years_in_column column = natural_in fits_years_column column

-- a number below 2 ^ 63
abbrev pub is_exact : ℕ → Bool
is_exact n = nat_lt n 9_223_372_036_854_775_808

abbrev pub exact_in : ℤ → Option ℕ
exact_in column = natural_in is_exact column

-- the counter with a column's bits
abbrev pub counter_in : ℤ → ℕ
counter_in column = cast_unsigned w64 column

-- the column is one of 64 bits
abbrev pub is_column : ℤ → Bool
is_column (pos n) = is_exact n
is_column (negsuc n) = is_exact n

-- the counter, if those are all its bits
abbrev pub serial_in : ℤ → Option ℕ
serial_in column = if is_column column then Some (counter_in column) else None
