-- The turns up to a moment are the least number, and add up.
use Rattle.std.proofs.Common.{◌≡◌, ℕ, zero, suc, ◌+◌, ◌-◌, ◌<◌, ◌≤◌, Bool, true, false, nat_lt, cond, refl, sym, ◌∙◌, inl, inr, arith}
use Rattle.std.proofs.lemmas.Bool.{cases_lt, Decides.nat_tests}
use Rattle.calendar.specs.Moment.{plus_years}
use Rattle.calendar.proofs.YearLaws.{plus_years-grows}
use Rattle.objects.specs.declared.domain.Domain.{Domain}
use Rattle.lifecycle.specs.{Turns.{least, turns}, Lapse.raised}

-- ---- the least number

passes-step : (test : ℕ → Bool) (b : Bool) (m k : ℕ) → test 0 ≡ b → test k ≡ true → ((i : ℕ) → k ≡ suc i → test (suc m) ≡ true) → test (cond b 0 (suc m)) ≡ true
passes-step test true m k first pass rest = first
passes-step test false m zero first pass rest = let never : false ≡ true = sym first ∙ pass in cc
passes-step test false m (suc k) first pass rest = rest k refl

least-passes : (n : ℕ) (test : ℕ → Bool) (k : ℕ) → k ≤ n → test k ≡ true → test (least n test) ≡ true
unfolding least
least-passes zero test k lt pass = let none : k ≡ 0 = omega arith in rw none at pass
least-passes (suc n) test k lt pass = passes-step test (test 0) (least n (λ i. test (suc i))) k refl pass
    (λ i e. least-passes n (λ i. test (suc i)) i (omega arith) (rw e at pass))

below-step : (test : ℕ → Bool) (b : Bool) (m j : ℕ) → test 0 ≡ b → j < cond b 0 (suc m) → ((i : ℕ) → i < m → test (suc i) ≡ false) → test j ≡ false
below-step test true m j first lt rest = absurd (omega arith)
below-step test false m zero first lt rest = first
below-step test false m (suc i) first lt rest = rest i (omega arith)

least-below : (n : ℕ) (test : ℕ → Bool) (j : ℕ) → j < least n test → test j ≡ false
unfolding least
least-below zero test j lt = absurd (omega arith)
least-below (suc n) test j lt = below-step test (test 0) (least n (λ i. test (suc i))) j refl lt (λ i below. least-below n (λ i. test (suc i)) i below)

-- ---- turns

lt-is : {m n : ℕ} → nat_lt m n ≡ true → m < n
lt-is e = grind (arith, nat_tests, e)

ge-is : {m n : ℕ} → nat_lt m n ≡ false → n ≤ m
ge-is e = grind (arith, nat_tests, e)

-- k is the least number of turns after which expiry is later than t
pub record AreTurns (d : Domain) (t k : ℕ) : Type 0 where
  pub after : t < plus_years d.created (d.years + k)
  pub before : (j : ℕ) → j < k → plus_years d.created (d.years + j) ≤ t

pub turns-are : (d : Domain) (t : ℕ) → AreTurns d t (turns d t)
unfolding turns
turns-are d t =
    let test : ℕ → Bool = λ k. nat_lt t (plus_years d.created (d.years + k)) in
    let enough : nat_lt t (plus_years d.created (d.years + suc t)) ≡ true = grind (arith, nat_tests, plus_years-grows d.created (d.years + suc t)) in
    record {
      after = lt-is (least-passes (suc t) test (suc t) (omega arith) enough);
      before = λ j lt. ge-is (least-below (suc t) test j lt);
    }

-- there is but one such number
pub turns-only : (d : Domain) (t k : ℕ) → AreTurns d t k → turns d t ≡ k
turns-only d t k h = elim (cases_lt (turns d t) k) [
  | inl lt ↦ absurd (omega (arith, (turns-are d t).after, h.before (turns d t) lt))
  | inr ge ↦ elim (cases_lt k (turns d t)) [
    | inl lt ↦ absurd (omega (arith, h.after, (turns-are d t).before k lt))
    | inr le ↦ omega arith
  ]
]

before-add : (d : Domain) (a b j : ℕ) → a ≤ b → j < turns d a + turns (raised (turns d a) d) b → plus_years d.created (d.years + j) ≤ b
before-add d a b j le lt = elim (cases_lt j (turns d a)) [
  | inl early ↦ omega (arith, (turns-are d a).before j early)
  | inr late ↦
      let same : d.years + turns d a + (j - turns d a) ≡ d.years + j = omega arith in
      rw same at ((turns-are (raised (turns d a) d) b).before (j - turns d a) (omega arith))
]

-- turns to a moment and then to a later one are those to the later one
pub turns-add : (d : Domain) (a b : ℕ) → a ≤ b → turns d b ≡ turns d a + turns (raised (turns d a) d) b
turns-add d a b le = turns-only d b (turns d a + turns (raised (turns d a) d) b) (record {
  after = let same : d.years + (turns d a + turns (raised (turns d a) d) b) ≡ d.years + turns d a + turns (raised (turns d a) d) b = omega arith in
      rw same (turns-are (raised (turns d a) d) b).after;
  before = λ j lt. before-add d a b j le lt;
})
