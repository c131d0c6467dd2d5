-- What the parts of a line are.
use Rattle.std.proofs.Common.{◌≡◌, ℕ, ◌+◌, ◌/◌, ◌%◌, ◌<◌, lit<, true, List, [], ◌∷◌, ◌++◌, Some, None, ap, ◌∙◌, arith, cond}
use Rattle.std.proofs.lemmas.Str.{IsUtf8-from_ascii, is_utf8-from_IsUtf8, Ascii.{IsAscii-cons, IsAscii-nil}}
use Rattle.std.specs.Str.{IsAscii, is_utf8}
use Rattle.calendar.proofs.ReadLemmas.{AreShort-parts_of}
use Rattle.calendar.specs.{Calendar.date_of, Moment.IsMoment, Text.{moment_text, two}}

-- each byte is ASCII
record Low (bytes : List ℕ) : Type 0 where
  low : IsAscii bytes

low : (byte : ℕ) (rest : List ℕ) → byte < 128 → Low rest → Low (byte ∷ rest)
low byte rest h r = record { low = IsAscii-cons byte rest h r.low }

low_two : (n : ℕ) (rest : List ℕ) → n < 100 → Low rest → Low (two n ++ rest)
low_two n rest h r = low (48 + n / 10) ((48 + n % 10) ∷ rest) (omega arith) (low (48 + n % 10) rest (omega arith) r)

low_moment : (m : ℕ) → IsMoment m → Low (moment_text m)
low_moment m h =
    let short = AreShort-parts_of m h in
    let date = date_of (m / 86_400) in
    let time = m % 86_400 in
    let year : date.year < 10_000 = short.year in
    low_two (date.year / 100) _ (omega arith) (low_two (date.year % 100) _ (omega arith)
    (low 45 _ (lit< tt) (low_two date.month _ short.month
    (low 45 _ (lit< tt) (low_two date.day _ short.day
    (low 84 _ (lit< tt) (low_two (time / 3600) _ short.hour
    (low 58 _ (lit< tt) (low_two (time / 60 % 60) _ short.minute
    (low 58 _ (lit< tt) (low_two (time % 60) _ short.second
    (low 90 [] (lit< tt) (record { low = IsAscii-nil })))))))))))))

-- a moment's text is UTF-8
pub moment_utf8 : (m : ℕ) → IsMoment m → is_utf8 (moment_text m) ≡ true
moment_utf8 m h = is_utf8-from_IsUtf8 _ (IsUtf8-from_ascii _ (low_moment m h).low)

-- what is no text is no moment's
pub no_moment : (bs : List ℕ) (m : ℕ) → None ≡ cond (is_utf8 bs) (Some bs) None → IsMoment m → bs ≡ moment_text m → ⊥
no_moment bs m none range written =
    let text : is_utf8 bs ≡ true = ap is_utf8 written ∙ moment_utf8 m range in
    let is_printed : None ≡ Some bs = rw text at none in
    absurd cc
