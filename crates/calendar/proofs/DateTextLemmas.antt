-- What spells a date.
use Rattle.std.proofs.Common.{◌≡◌, ℕ, ◌/◌, Bool, true, false, List, Option, Some, None, refl, sym, ap, ◌∙◌, arith}
use Rattle.std.proofs.lemmas.{Bool.Decides.nat_tests, Slice.Eq.bytes_eq-Decides}
use Rattle.std.specs.Str.{bytes_eq}
use Rattle.calendar.specs.{Calendar.date_of, Moment.IsMoment, Text.{date_text, is_date}, Reading.date_fields}
use Rattle.calendar.proofs.{ReadLemmas.{date_fields-again, date_found}, TextLemmas.{IsShort, IsShort-moment}}

-- the three numbers that a moment's date spells
again : (m : ℕ) → IsMoment m → (bs : List ℕ) → bs ≡ date_text (date_of (m / 86_400)) → date_fields bs ≡ Some ((date_of (m / 86_400)).year, (date_of (m / 86_400)).month, (date_of (m / 86_400)).day)
again m range bs is =
    let short : IsShort m = IsShort-moment m range in
    ap date_fields is ∙ date_fields-again (date_of (m / 86_400)) short.year_high short.month short.day

abbrev some3 : ℕ × ℕ × ℕ → Option (ℕ × ℕ × ℕ)
some3 numbers = Some numbers

-- what spells no date is none
pub spells-none : (m : ℕ) (bs : List ℕ) → IsMoment m → date_fields bs ≡ None → false ≡ bytes_eq bs (date_text (date_of (m / 86_400)))
spells-none m bs range none = by (bytes_eq bs (date_text (date_of (m / 86_400)))) refl
  where
    by : (b : Bool) → bytes_eq bs (date_text (date_of (m / 86_400))) ≡ b → false ≡ b
    by false e = refl
    by true e = let told = again m range bs ((bytes_eq-Decides bs (date_text (date_of (m / 86_400)))).0 e) in absurd cc

-- what spells a date is that of a moment where the numbers are
pub spells-date : (m : ℕ) (bs : List ℕ) (y mo d : ℕ) → IsMoment m → date_fields bs ≡ Some (y, mo, d) → is_date (date_of (m / 86_400)) y mo d ≡ bytes_eq bs (date_text (date_of (m / 86_400)))
spells-date m bs y mo d range read = by (bytes_eq bs (date_text (date_of (m / 86_400)))) refl
  where
    numbers : (y' mo' d' : ℕ) → some3 (y, mo, d) ≡ some3 (y', mo', d') → is_date (record { year = y'; month = mo'; day = d' }) y mo d ≡ true
    numbers y' mo' d' some =
        let same : (y, mo, d) ≡ (y', mo', d') = cc in
        let year : y ≡ y' = ap (λ (t : ℕ × ℕ × ℕ). t.0) same in
        let month : mo ≡ mo' = ap (λ (t : ℕ × ℕ × ℕ). t.1) same in
        let day : d ≡ d' = ap (λ (t : ℕ × ℕ × ℕ). t.2) same in
        rw (year, month, day) (grind (arith, nat_tests))

    by : (b : Bool) → bytes_eq bs (date_text (date_of (m / 86_400))) ≡ b → is_date (date_of (m / 86_400)) y mo d ≡ b
    by true e =
        numbers (date_of (m / 86_400)).year (date_of (m / 86_400)).month (date_of (m / 86_400)).day
        (sym read ∙ again m range bs ((bytes_eq-Decides bs (date_text (date_of (m / 86_400)))).0 e))
    by false e = other (is_date (date_of (m / 86_400)) y mo d) refl
      where
        other : (c : Bool) → is_date (date_of (m / 86_400)) y mo d ≡ c → c ≡ false
        other false same = refl
        other true same =
            let year : y ≡ (date_of (m / 86_400)).year = grind (arith, nat_tests) in
            let month : mo ≡ (date_of (m / 86_400)).month = grind (arith, nat_tests) in
            let day : d ≡ (date_of (m / 86_400)).day = grind (arith, nat_tests) in
            let spelled : bs ≡ date_text (date_of (m / 86_400)) = rw (year, month, day) at (date_found bs y mo d read) in
            let found : bytes_eq bs (date_text (date_of (m / 86_400))) ≡ true = (bytes_eq-Decides bs (date_text (date_of (m / 86_400)))).1 spelled in
            absurd (let never = sym e ∙ found in cc)
