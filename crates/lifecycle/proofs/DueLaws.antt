-- When a domain is due, and that a lapse leaves nothing due.
use Rattle.std.proofs.Common.{◌≡◌, ℕ, ◌+◌, ◌<◌, ◌≤◌, min, Bool, true, false, cond, nat_lt, List, [], Option, Some, None, Result, Ok, Err, refl, sym, subst, ap, ◌∙◌, arith}
use Rattle.std.proofs.lemmas.{Bool.Decides.nat_tests, Option.same_Some}
use Rattle.std.specs.Result.{IfOk}
use Rattle.calendar.specs.Moment.{IsMoment}
use Rattle.calendar.proofs.YearLaws.{plus_years-later}
use Rattle.policy.specs.Rules.{PolicyRules}
use Rattle.accounts.specs.declared.entries.Posting.{Posting}
use Rattle.objects.specs.{Domains.expiry, declared.domain.{Deletion.Deletion, Domain.Domain}}
use Rattle.objects.specs.declared.transfer.Transfer.{Transfer}
use Rattle.lifecycle.specs.declared.lapsed.Lapsed.{Lapsed}
use Rattle.lifecycle.specs.Lapse.{IsLapseOf, completes_at, due_at, due_by, due_of, earlier, earlier_end, lapse, lapse_by, leaves, lived, moved, purged, raised, renewals}
use Rattle.lifecycle.specs.{Periods.{in_time, passed}, Phases.purge_at, Turns.turns}
use Rattle.lifecycle.proofs.{LapseLaws.lapse-law, TurnLaws.{turns-are, turns-only}}

-- ---- after a lapse

ahead : (t e : ℕ) (o : Option Transfer) → due_by t o ≡ None → t < e → t < earlier e (completes_at o)
ahead t e o h lt = grind (arith, nat_tests, h, lt)

-- a domain that isn't deleted, after its turns
turned-ahead : (p : PolicyRules) (t : ℕ) (d : Domain) → d.deletion ≡ None → due_by t d.transfer ≡ None → t < due_at p (raised (turns d t) d)
turned-ahead p t d alive none =
    let c : Domain = raised (turns d t) d in
    let h : t < due_of p None c = ahead t (expiry c) d.transfer none (turns-are d t).after in
    subst (λ o. t < due_of p o c) (sym alive) h

after-by : (p : PolicyRules) (t : ℕ) (d : Domain) (o : Option Transfer) → d.deletion ≡ None → due_by t d.transfer ≡ o → (c : Domain) → (lived p t o d).object ≡ Some c → t < due_at p c
after-by p t d None alive none c e = let same = same_Some (raised (turns d t) d) c e in rw (sym same) (turned-ahead p t d alive none)
after-by p t d (Some x) alive due c e =
    let m : Domain = moved x (raised (turns d x.ac_date) d) in
    let same = same_Some (raised (turns m t) m) c e in
    rw (sym same) (turned-ahead p t m alive refl)

kept-after : (p : PolicyRules) (t : ℕ) (x : Deletion) (d : Domain) (b : Bool) → d.deletion ≡ Some x → nat_lt t (purge_at p x) ≡ b → (c : Domain) → (cond b (leaves d []) (purged p x d)).object ≡ Some c → t < due_at p c
kept-after p t x d true gone lt c e =
    let same = same_Some d c e in
    let below : t < purge_at p x = grind (arith, nat_tests, lt) in
    rw (sym same) (subst (λ o. t < due_of p o d) (sym gone) below)
kept-after p t x d false gone lt c e = cc

after-any : (p : PolicyRules) (t : ℕ) (d : Domain) (o : Option Deletion) → d.deletion ≡ o → (c : Domain) → (lapse_by p t o d).object ≡ Some c → t < due_at p c
after-any p t d None alive c e = after-by p t d (due_by t d.transfer) alive refl c e
after-any p t d (Some x) gone c e = kept-after p t x d (nat_lt t (purge_at p x)) gone refl c e

pub lapse-due : (p : PolicyRules) (t : ℕ) (d c : Domain) → (lapse p t d).object ≡ Some c → t < due_at p c
lapse-due p t d c e = after-any p t d d.deletion refl c e

-- ---- before it is due

none-due : (t e : ℕ) (o : Option Transfer) → t < earlier e (completes_at o) → due_by t o ≡ None
none-due t e o lt = grind (arith, nat_tests, lt)

no-turns : (t : ℕ) (d : Domain) → t < expiry d → turns d t ≡ 0
no-turns t d lt = turns-only d t 0 (record { after = let none : d.years + 0 ≡ d.years = omega arith in rw none lt; before = λ j below. absurd (omega (arith, below)) })

no-renewals : (p : PolicyRules) (d : Domain) → renewals p d 0 ≡ []
unfolding renewals
no-renewals p d = refl

same-years : (d : Domain) → raised 0 d ≡ d
same-years d = let none : d.years + 0 ≡ d.years = omega arith in rw none refl

no-turn : (p : PolicyRules) (t : ℕ) (d : Domain) → t < expiry d → leaves (raised (turns d t) d) (renewals p d (turns d t)) ≡ leaves d []
no-turn p t d lt = ap (λ n. leaves (raised n d) (renewals p d n)) (no-turns t d lt) ∙ ap (λ (c : Domain). leaves c (renewals p d 0)) (same-years d) ∙ ap (λ (ps : List Posting). leaves d ps) (no-renewals p d)

before-any : (p : PolicyRules) (t : ℕ) (d : Domain) (o : Option Deletion) → t < due_of p o d → lapse_by p t o d ≡ leaves d []
before-any p t d None lt =
    ap (λ (o : Option Transfer). lived p t o d) (none-due t (expiry d) d.transfer lt)
    ∙ no-turn p t d (grind (arith, lt))
before-any p t d (Some x) lt =
    let early : nat_lt t (purge_at p x) ≡ true = grind (arith, nat_tests, lt) in
    ap (λ b. cond b (leaves d []) (purged p x d)) early

pub lapse-stays : (p : PolicyRules) (t : ℕ) (d : Domain) → t < due_at p d → lapse p t d ≡ leaves d []
lapse-stays p t d lt = before-any p t d d.deletion lt

-- ---- a lapse

pub is_lapse : (p : PolicyRules) (t : ℕ) (d : Domain) (l : Lapsed Domain) → l ≡ lapse p t d → IsLapseOf p t d l
is_lapse p t d l e = record {
  value = e;
  on = λ u le. rw e (lapse-law p t u d le);
  due_after = λ c found. lapse-due p t d c (ap (λ (m : Lapsed Domain). m.object) (sym e) ∙ found);
  until_due = λ lt. e ∙ lapse-stays p t d lt;
}

pub lapse-result : {E : Type 0} (p : PolicyRules) (t : ℕ) (d : Domain) (r : Result (Lapsed Domain) E) → IfOk r (λ l. l ≡ lapse p t d) → IfOk r (λ l. IsLapseOf p t d l)
lapse-result p t d (Ok l) e = is_lapse p t d l e
lapse-result p t d (Err x) e = e

-- ---- the code's moment

due-pick : (e n : ℕ) → 946_684_800 ≤ e → IsMoment n → Some (earlier_end (in_time e) n) ≡ in_time (min e n)
due-pick e n low h = grind (arith, nat_tests, low, h.0, h.1)

pub due-steps : (p : PolicyRules) (d : Domain) (end : Option ℕ) (n r : ℕ) → d.deletion ≡ None → completes_at d.transfer ≡ Some n → end ≡ in_time (expiry d) → r ≡ earlier_end end n → 946_684_800 ≤ d.created → IsMoment n → Some r ≡ in_time (due_at p d)
due-steps p d end n r alive completes is_end value low h =
    let low_end : 946_684_800 ≤ expiry d = omega (arith, low, plus_years-later d.created d.years) in
    let due : due_at p d ≡ min (expiry d) n = ap (λ o. due_of p o d) alive ∙ ap (earlier (expiry d)) completes in
    ap Some (value ∙ ap (λ o. earlier_end o n) is_end) ∙ due-pick (expiry d) n low_end h ∙ ap in_time (sym due)

-- an expiry past the last moment hasn't come
pub not-expired : (t : ℕ) (d : Domain) → in_time (expiry d) ≡ None → 946_684_800 ≤ d.created → t ≤ 7_258_118_399 → None ≡ passed t (expiry d)
not-expired t d past low last = grind (arith, nat_tests, past, low, last, plus_years-later d.created d.years)
