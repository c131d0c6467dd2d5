-- Numbers and moments are read from their columns, and from no others.
use Rattle.std.proofs.Common.{◌≡◌, ℕ, ◌<◌, ◌^◌, ℤ, pos, negsuc, Bool, true, Option, Some, None, IfSome, FitsSigned, w64, arith, refl, sym, ap, ◌∙◌}
use Rattle.std.proofs.lemmas.{Bool.{Decides.nat_tests, lt-ltb}, Int.{ints, of_z-to_z, to_z-of_z}}
use Rattle.std.specs.Prelude.{option_map}
use Rattle.calendar.specs.Moment.{IsMoment, is_moment}
use Rattle.sqlcolumns.specs.Numbers.{IsPlace, counter_column, counter_in, exact_column, exact_in, fits_years_column, is_column, is_place, maybe_moment_column, maybe_moment_in, moment_column, moment_in_column, natural_in, nullable_in, registrar_column, registrar_in, serial_in, years_column, years_in_column}
use Rattle.sqlcolumns.proofs.ReadLemmas.{kept, passed, same_some, some_read}

-- ---- natural numbers

pub natural_written : (among : ℕ → Bool) (c : ℤ) (n : ℕ) → natural_in among c ≡ Some n → (pos n ≡ c) × (among n ≡ true)
natural_written among (pos m) n e =
    let is = kept m n (among m) e in (sym (ap pos is.1), sym (ap among is.1) ∙ is.0)
natural_written among (negsuc m) n e = cc

-- ---- columns that may be NULL

pub maybe_back : (column : ℕ → ℤ) (read : ℤ → Option ℕ) (Is : ℕ → Type 0) → ((n : ℕ) → Is n → read (column n) ≡ Some n) → (m : Option ℕ) → IfSome m Is → nullable_in read (option_map column m) ≡ Some m
maybe_back column read Is back None is = refl
maybe_back column read Is back (Some n) is = ap (option_map Some) (back n is)

-- ---- moments

pub moment_back : (m : ℕ) → IsMoment m → moment_in_column (moment_column m) ≡ Some m
moment_back m is = grind (arith, nat_tests, is)

pub moment_written : (c : ℤ) (m : ℕ) → moment_in_column c ≡ Some m → moment_column m ≡ c
moment_written c m e = (natural_written is_moment c m e).0

pub maybe_moment_back : (m : Option ℕ) → IfSome m IsMoment → maybe_moment_in (maybe_moment_column m) ≡ Some m
maybe_moment_back m is = maybe_back moment_column moment_in_column IsMoment moment_back m is

pub maybe_moment_written : (c : Option ℤ) (m : Option ℕ) → maybe_moment_in c ≡ Some m → maybe_moment_column m ≡ c
maybe_moment_written None m e = sym (ap maybe_moment_column (same_some None m e))
maybe_moment_written (Some c) m e = some_read (moment_in_column c) m (λ x. maybe_moment_column x ≡ Some c) (λ n is. ap Some (moment_written c n is)) e

-- ---- registrars and years

pub registrar_back : (place : ℕ) → IsPlace place → registrar_in (registrar_column place) ≡ Some place
registrar_back place is = grind (arith, nat_tests, is)

pub registrar_written : (c : ℤ) (place : ℕ) → registrar_in c ≡ Some place → registrar_column place ≡ c
registrar_written c place e = (natural_written is_place c place e).0

pub years_back : (years : ℕ) → years < 2 ^ 32 → years_in_column (years_column years) ≡ Some years
years_back years small = passed years (fits_years_column years) (lt-ltb years 4_294_967_296 small)

-- ---- numbers as themselves

pub exact_back : (n : ℕ) (c : ℤ) → exact_column n ≡ Some c → exact_in c ≡ Some n
exact_back n c e = grind (arith, e)

pub exact_written : (c : ℤ) (n : ℕ) → exact_in c ≡ Some n → exact_column n ≡ Some c
exact_written c n e = grind (arith, e)

-- ---- counters

fits_column : (c : ℤ) → FitsSigned w64 c → is_column c ≡ true
fits_column c fits = grind (arith, ints, fits)

column_fits : (c : ℤ) → is_column c ≡ true → FitsSigned w64 c
column_fits c e = grind (arith, ints, e)

pub serial_back : (n : ℕ) → n < 2 ^ 64 → serial_in (counter_column n) ≡ Some n
serial_back n small =
    passed (counter_in (counter_column n)) (is_column (counter_column n)) (fits_column (counter_column n) (omega (arith, ints))) ∙ ap Some (of_z-to_z w64 n small)

pub serial_written : (c : ℤ) (n : ℕ) → serial_in c ≡ Some n → counter_column n ≡ c
serial_written c n e =
    let is = kept (counter_in c) n (is_column c) e in
    sym (ap counter_column is.1) ∙ to_z-of_z w64 c (column_fits c is.0)
