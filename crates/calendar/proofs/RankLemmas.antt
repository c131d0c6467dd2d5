-- Ranks are in the order of time.
use Rattle.std.proofs.Common.{◌≡◌, ℕ, suc, ◌+◌, ◌-◌, ◌*◌, ◌/◌, ◌%◌, ◌<◌, ◌≤◌, nat_lt, inl, inr, refl, ap, ◌∙◌, arith}
use Rattle.std.proofs.lemmas.Bool.{cases_lt, Decides.nat_tests}
use Rattle.calendar.specs.{Calendar.{Date, date_of, day_number, days_of_months, days_of_years}, Moment.{years_later, plus_years}}
use Rattle.calendar.specs.Ranks.{rank}
use Rattle.calendar.proofs.CalendarLemmas.{IsReal, IsReal-date_of, day_number-parts, days_of_months-suc, month_length_high}
use Rattle.calendar.proofs.YearLaws.{IsReal-years_later, day_number-year, days_of_months-mono, days_of_years-mono}

abbrev flat : Date → ℕ
flat d = (d.year * 12 + d.month) * 31 + d.day

parts-in : (e : Date) (y m : ℕ) → e.year ≡ y → e.month ≡ m → day_number e ≡ days_of_years (y - 1970) + (days_of_months y (m - 1) + (e.day - 1))
parts-in e y m year month =
    day_number-parts e
    ∙ ap (λ k. days_of_years (k - 1970) + (days_of_months k (e.month - 1) + (e.day - 1))) year
    ∙ ap (λ k. days_of_years (y - 1970) + (days_of_months y (k - 1) + (e.day - 1))) month

year-first : (d e : Date) → IsReal d → IsReal e → d.year < e.year → day_number d < day_number e
year-first d e hd he lt =
    let apart : (e.year - 1970 - (d.year - 1970 + 1)) + (d.year - 1970 + 1) ≡ e.year - 1970 = omega (arith, hd.year) in
    let early = day_number-year d hd in
    let late = day_number-year e he in
    omega (arith, early.1, late.0, rw apart at (days_of_years-mono (d.year - 1970 + 1) (e.year - 1970 - (d.year - 1970 + 1))))

month-first : (d e : Date) → IsReal d → IsReal e → e.year ≡ d.year → d.month < e.month → day_number d < day_number e
month-first d e hd he same lt =
    let month : suc (d.month - 1) ≡ d.month = omega (arith, hd.month_low) in
    let apart : (e.month - 1 - d.month) + d.month ≡ e.month - 1 = omega arith in
    omega (arith, day_number-parts d, parts-in e d.year e.month same refl, rw month at (days_of_months-suc d.year (d.month - 1)), rw apart at (days_of_months-mono d.year d.month (e.month - 1 - d.month)), hd.day_high, hd.day_low)

day-first : (d e : Date) → IsReal d → IsReal e → e.year ≡ d.year → e.month ≡ d.month → d.day < e.day → day_number d < day_number e
day-first d e hd he year month lt =
    omega (arith, day_number-parts d, parts-in e d.year d.month year month, hd.day_low)

flat-lt : (d e : Date) → IsReal d → IsReal e → flat d < flat e → day_number d < day_number e
flat-lt d e hd he lt =
    let high : d.day ≤ 31 = omega (arith, hd.day_high, month_length_high d.year d.month) in
    let high' : e.day ≤ 31 = omega (arith, he.day_high, month_length_high e.year e.month) in
    elim (cases_lt d.year e.year) [
      | inl year ↦ year-first d e hd he year
      | inr year ↦ (let same : e.year ≡ d.year = omega (arith, hd.month_low, hd.month_high, hd.day_low, he.month_low, he.month_high, he.day_low) in
          elim (cases_lt d.month e.month) [
            | inl month ↦ month-first d e hd he same month
            | inr month ↦ (let same' : e.month ≡ d.month = omega (arith, hd.day_low, he.day_low) in day-first d e hd he same same' (omega arith))
          ])
    ]

flat-same : (d e : Date) → IsReal d → IsReal e → flat d ≡ flat e → day_number d ≡ day_number e
flat-same d e hd he is =
    let high : d.day ≤ 31 = omega (arith, hd.day_high, month_length_high d.year d.month) in
    let high' : e.day ≤ 31 = omega (arith, he.day_high, month_length_high e.year e.month) in
    let year : e.year ≡ d.year = omega (arith, hd.month_low, hd.month_high, hd.day_low, he.month_low, he.month_high, he.day_low) in
    let month : e.month ≡ d.month = omega (arith, hd.day_low, he.day_low) in
    let day : e.day ≡ d.day = omega arith in
    omega (arith, day, day_number-parts d, parts-in e d.year d.month year month)

both : (a b x y : ℕ) → (a < b → x < y) → (b ≤ a → y ≤ x) → nat_lt a b ≡ nat_lt x y
both a b x y up down =
    elim (cases_lt a b) [
      | inl lt ↦ grind (arith, nat_tests, up lt)
      | inr ge ↦ grind (arith, nat_tests, down ge)
    ]

rank-order : (d e : Date) (s u : ℕ) → IsReal d → IsReal e → s < 86_400 → u < 86_400 → nat_lt (rank d s) (rank e u) ≡ nat_lt (day_number d * 86_400 + s) (day_number e * 86_400 + u)
unfolding rank
rank-order d e s u hd he small small' =
    both (flat d * 86_400 + s) (flat e * 86_400 + u) (day_number d * 86_400 + s) (day_number e * 86_400 + u)
    (λ lt. elim (cases_lt (flat d) (flat e)) [
      | inl less ↦ omega (arith, flat-lt d e hd he less)
      | inr more ↦ (let same : flat d ≡ flat e = omega arith in omega (arith, flat-same d e hd he same))
    ])
    (λ ge. elim (cases_lt (flat e) (flat d)) [
      | inl less ↦ omega (arith, flat-lt e d he hd less)
      | inr more ↦ (let same : flat d ≡ flat e = omega arith in omega (arith, flat-same d e hd he same))
    ])

pub rank-plus_years : (m n k l : ℕ) → nat_lt (rank (years_later (date_of (m / 86_400)) n) (m % 86_400)) (rank (years_later (date_of (k / 86_400)) l) (k % 86_400)) ≡ nat_lt (plus_years m n) (plus_years k l)
unfolding plus_years
rank-plus_years m n k l =
    rank-order (years_later (date_of (m / 86_400)) n) (years_later (date_of (k / 86_400)) l) (m % 86_400) (k % 86_400)
    (IsReal-years_later (date_of (m / 86_400)) n (IsReal-date_of (m / 86_400))) (IsReal-years_later (date_of (k / 86_400)) l (IsReal-date_of (k / 86_400))) (omega arith) (omega arith)
