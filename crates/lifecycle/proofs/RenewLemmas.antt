-- The loop of renewals.
use Rattle.std.proofs.Common.{◌≡◌, ℕ, suc, ◌+◌, ◌-◌, ◌<◌, ◌≤◌, List, ◌++◌, append_assoc, append-nil, refl, sym, ap, ◌∙◌, arith, inl, inr}
use Rattle.std.proofs.lemmas.Bool.{cases_lt}
use Rattle.calendar.specs.Moment.{plus_years}
use Rattle.calendar.proofs.YearLaws.{plus_years-lt}
use Rattle.policy.specs.Rules.{PolicyRules}
use Rattle.objects.specs.{declared.domain.Domain.Domain, Domains.expiry}
use Rattle.accounts.specs.declared.entries.Posting.{Posting}
use Rattle.lifecycle.specs.{Turns.turns, Lapse.{renewals, raised, turn}}
use Rattle.lifecycle.proofs.TurnLaws.{turns-only}

-- after n turns, all of them due
pub record IsRenewing (p : PolicyRules) (t : ℕ) (d0 : Domain) (e0 : List Posting) (d : Domain) (e : List Posting) : Type 0 where
  pub n : ℕ
  pub domain : d ≡ raised n d0
  pub postings : e ≡ e0 ++ renewals p d0 n
  pub before : (j : ℕ) → j < n → plus_years d0.created (d0.years + j) ≤ t

pub renewing-begins : (p : PolicyRules) (t : ℕ) (d : Domain) (e : List Posting) → IsRenewing p t d e d e
unfolding renewals
renewing-begins p t d e = let none : d.years + 0 ≡ d.years = omega arith in record { n = 0; domain = rw none refl; postings = sym (append-nil e); before = λ j lt. absurd (omega arith) }

one_more : (p : PolicyRules) (t : ℕ) (d0 d d2 : Domain) (e0 e e2 : List Posting) (n : ℕ) → d ≡ raised n d0 → e ≡ e0 ++ renewals p d0 n → ((j : ℕ) → j < n → plus_years d0.created (d0.years + j) ≤ t)
    → expiry d ≤ t → d2 ≡ raised 1 d → e2 ≡ e ++ turn p d 0 → IsRenewing p t d0 e0 d2 e2
unfolding renewals
one_more p t d0 d d2 e0 e e2 n domain events before due same more =
    let years : d0.years + n + 1 ≡ d0.years + suc n = omega arith in
    let none : d0.years + n + 0 ≡ d0.years + n = omega arith in
    let last : plus_years d0.created (d0.years + n) ≤ t = rw domain at due in
    record {
      n = suc n;
      domain = same ∙ ap (raised 1) domain ∙ ap (λ (y : ℕ). let x : Domain = record d0 { years = y } in x) years;
      postings = more ∙ ap (λ (x : Domain). e ++ turn p x 0) domain ∙ ap (λ (x : List Posting). x ++ turn p (raised n d0) 0) events
          ∙ append_assoc e0 (renewals p d0 n) (turn p (raised n d0) 0) ∙ rw none refl;
      before = λ j lt. elim (cases_lt j n) [
        | inl early ↦ before j early
        | inr late ↦ let same : j ≡ n = omega arith in rw same last
      ];
    }

pub renewing-more : (p : PolicyRules) (t : ℕ) (d0 d d2 : Domain) (e0 e e2 : List Posting) → IsRenewing p t d0 e0 d e → expiry d ≤ t → d2 ≡ raised 1 d → e2 ≡ e ++ turn p d 0 → IsRenewing p t d0 e0 d2 e2
renewing-more p t d0 d d2 e0 e e2 h due same more = one_more p t d0 d d2 e0 e e2 h.n h.domain h.postings h.before due same more

-- once expiry lies ahead, these were the turns
pub renewing-done : (p : PolicyRules) (t : ℕ) (d0 d : Domain) (e0 e : List Posting) → IsRenewing p t d0 e0 d e → t < expiry d → (d ≡ raised (turns d0 t) d0) × (e ≡ e0 ++ renewals p d0 (turns d0 t))
renewing-done p t d0 d e0 e h later =
    let count : turns d0 t ≡ h.n = turns-only d0 t h.n (record { after = rw h.domain at later; before = h.before }) in
    rw count (h.domain, h.postings)

pub renewing-smaller : (t : ℕ) (d d2 : Domain) → d2 ≡ raised 1 d → expiry d ≤ t → suc t - expiry d2 < suc t - expiry d
renewing-smaller t d d2 same due = rw same (omega (arith, plus_years-lt d.created d.years (d.years + 1) (omega arith)))
