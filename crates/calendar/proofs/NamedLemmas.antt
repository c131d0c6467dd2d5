-- The moment that a text names is the one whose text it is.
use Rattle.std.proofs.Common.{◌≡◌, ◌≢◌, ℕ, zero, suc, ◌+◌, ◌≤◌, ◌<◌, Bool, true, false, cond, List, Option, Some, None, refl, sym, ap, ◌∙◌, true≢false, arith}
use Rattle.std.proofs.lemmas.Slice.Eq.{bytes_eq-Decides}
use Rattle.std.specs.Str.{bytes_eq}
use Rattle.calendar.specs.{Moment.IsMoment, Text.moment_text, Named.{first_from, moment_named}}

none_left : (test : ℕ → Bool) (first : ℕ) → first_from test first 0 ≡ None
unfolding first_from
none_left test first = refl

one_more : (test : ℕ → Bool) (first more : ℕ) → first_from test first (suc more) ≡ cond (test first) (Some first) (first_from test (suc first) more)
unfolding first_from
one_more test first more = refl

none_from : (test : ℕ → Bool) (first more : ℕ) → ((k : ℕ) → first ≤ k → k < first + more → test k ≡ false) → first_from test first more ≡ None
none_from test first zero fails = none_left test first
none_from test first (suc more) fails =
    one_more test first more
    ∙ (ap (λ (b : Bool). cond b (Some first) (first_from test (suc first) more)) (fails first (omega arith) (omega arith))
    ∙ none_from test (suc first) more (λ k low high. fails k (omega (arith, low)) (omega (arith, high))))

first_or : (first m : ℕ) (rest : Option ℕ) (b : Bool) → (b ≡ true → first ≡ m) → (b ≡ false → rest ≡ Some m) → cond b (Some first) rest ≡ Some m
first_or first m rest true this other = ap (λ (k : ℕ). Some k) (this refl)
first_or first m rest false this other = other refl

-- what fails at the first is another
differ : (test : ℕ → Bool) (first m : ℕ) → test m ≡ true → test first ≡ false → first ≢ m
differ test first m holds fails same = true≢false (sym holds ∙ (ap test (sym same) ∙ fails))

some_from : (test : ℕ → Bool) (first more m : ℕ) → first ≤ m → m < first + more → test m ≡ true
    → ((k : ℕ) → first ≤ k → k < first + more → test k ≡ true → k ≡ m) → first_from test first more ≡ Some m
some_from test first zero m low high holds only = absurd (omega (arith, low, high))
some_from test first (suc more) m low high holds only =
    one_more test first more
    ∙ first_or first m (first_from test (suc first) more) (test first) (λ e. only first (omega arith) (omega arith) e)
    (λ e. some_from test (suc first) more m (omega (arith, low, differ test first m holds e)) (omega (arith, high)) holds
    (λ k l h t. only k (omega (arith, l)) (omega (arith, h)) t))

fails_at : (b : Bool) → (b ≡ true → true ≡ false) → b ≡ false
fails_at true never = never refl
fails_at false never = refl

pub named_none : (text : List ℕ) → ((m : ℕ) → IsMoment m → text ≡ moment_text m → None ≡ Some m) → None ≡ moment_named text
unfolding moment_named
named_none text only =
    sym (none_from (λ m. bytes_eq (moment_text m) text) 946_684_800 6_311_433_600
    (λ m low high. fails_at (bytes_eq (moment_text m) text)
    (λ e. let never : None ≡ Some m = only m (low, omega (arith, high)) (sym ((bytes_eq-Decides (moment_text m) text).0 e)) in absurd cc)))

pub named_some : (text : List ℕ) (m : ℕ) → IsMoment m → text ≡ moment_text m → ((k : ℕ) → IsMoment k → text ≡ moment_text k → Some m ≡ Some k)
    → Some m ≡ moment_named text
unfolding moment_named
named_some text m range is only =
    sym (some_from (λ k. bytes_eq (moment_text k) text) 946_684_800 6_311_433_600 m range.0 (omega (arith, range.1))
    ((bytes_eq-Decides (moment_text m) text).1 (sym is))
    (λ k low high e. let same : Some m ≡ Some k = only k (low, omega (arith, high)) (sym ((bytes_eq-Decides (moment_text k) text).0 e)) in cc))
