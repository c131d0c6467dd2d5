-- The lapse law: to lapse to a moment and then to a later one is to lapse to the later one.
use Rattle.std.proofs.Common.{◌≡◌, ℕ, zero, suc, ◌+◌, ◌≤◌, Bool, true, false, cond, nat_lt, List, [], ◌++◌, append_assoc, append-nil, Option, Some, None, refl, sym, ap, ◌∙◌, arith}
use Rattle.std.proofs.lemmas.Bool.Decides.{nat_tests}
use Rattle.policy.specs.Rules.{PolicyRules}
use Rattle.objects.specs.{declared.{domain.{Domain.Domain, Deletion.Deletion}, transfer.Transfer.Transfer}}
use Rattle.accounts.specs.declared.entries.Posting.{Posting}
use Rattle.lifecycle.specs.{declared.lapsed.Lapsed.Lapsed, Turns.turns, Phases.purge_at}
use Rattle.lifecycle.specs.Lapse.{leaves, after, next, ◌>>=◌, turn, renewals, raised, renewed, moved, completed, due_by, lived, purged, lapse_by, lapse}
use Rattle.lifecycle.proofs.TurnLaws.{turns-add}

-- one after another, in whatever groups
next-after : (es fs : List Posting) (o : Option Domain) (g : Domain → Lapsed Domain) → next o (es ++ fs) g ≡ after es (next o fs g)
next-after es fs None g = refl
next-after es fs (Some d) g = ap (λ (events : List Posting). let l : Lapsed Domain = record { object = (g d).object; postings = events } in l) (append_assoc es fs (g d).postings)

assoc : (o : Option Domain) (es : List Posting) (f g : Domain → Lapsed Domain) → (next o es f >>= g) ≡ next o es (λ d. f d >>= g)
assoc None es f g = refl
assoc (Some d) es f g = next-after es (f d).postings (f d).object g

-- n turns and then k more
renewals-add : (p : PolicyRules) (d : Domain) (n k : ℕ) → renewals p d (n + k) ≡ renewals p d n ++ renewals p (raised n d) k
unfolding renewals
renewals-add p d n zero = let none : n + 0 ≡ n = omega arith in rw none (sym (append-nil (renewals p d n)))
renewals-add p d n (suc k) =
    let one : n + suc k ≡ suc (n + k) = omega arith in
    let years : d.years + (n + k) ≡ d.years + n + k = omega arith in
    rw one (rw (renewals-add p d n k) (rw years (append_assoc (renewals p d n) (renewals p (raised n d) k) (turn p (raised n d) k))))

renewed-add : (p : PolicyRules) (a b : ℕ) (d : Domain) → a ≤ b → (renewed p a d >>= renewed p b) ≡ renewed p b d
renewed-add p a b d le =
    let years : d.years + turns d a + turns (raised (turns d a) d) b ≡ d.years + (turns d a + turns (raised (turns d a) d) b) = omega arith in
    rw (turns-add d a b le) (rw (renewals-add p d (turns d a) (turns (raised (turns d a) d) b)) (rw years refl))

-- a domain that isn't deleted
is-living : (p : PolicyRules) (t : ℕ) (o : Option Transfer) (d : Domain) → d.deletion ≡ None → due_by t d.transfer ≡ o → lapse p t d ≡ lived p t o d
is-living p t o d e f = ap (λ x. lapse_by p t x d) e ∙ ap (λ x. lived p t x d) f

-- of which no transfer is due
quiet : (p : PolicyRules) (a b : ℕ) (d : Domain) → a ≤ b → d.deletion ≡ None → due_by b d.transfer ≡ None → (renewed p a d >>= lapse p b) ≡ renewed p b d
quiet p a b d le e f = ap (after (renewals p d (turns d a))) (is-living p b None (raised (turns d a) d) e f) ∙ renewed-add p a b d le

-- of which one becomes due between the two moments
between : (p : PolicyRules) (a b : ℕ) (x : Transfer) (d : Domain) → a ≤ x.ac_date → d.deletion ≡ None → due_by b d.transfer ≡ Some x → (renewed p a d >>= lapse p b) ≡ lived p b (Some x) d
between p a b x d le e f =
    ap (after (renewals p d (turns d a))) (is-living p b (Some x) (raised (turns d a) d) e f)
    ∙ sym (assoc (Some (raised (turns d a) d)) (renewals p d (turns d a)) (renewed p x.ac_date) (λ d. completed x d >>= renewed p b))
    ∙ ap (λ (l : Lapsed Domain). l >>= (λ d. completed x d >>= renewed p b)) (renewed-add p a x.ac_date d le)

-- of which one was due before both
early : (p : PolicyRules) (a b : ℕ) (x : Transfer) (d : Domain) → a ≤ b → d.deletion ≡ None → (lived p a (Some x) d >>= lapse p b) ≡ lived p b (Some x) d
early p a b x d le e =
    let d1 : Domain = raised (turns d x.ac_date) d in
    assoc (Some d1) (renewals p d (turns d x.ac_date)) (λ d. completed x d >>= renewed p a) (lapse p b)
    ∙ ap (after (renewals p d (turns d x.ac_date)))
    (assoc (Some (moved x d1)) (completed x d1).postings (renewed p a) (lapse p b)
    ∙ ap (after (completed x d1).postings) (quiet p a b (moved x d1) le e refl))

pub stays_due : (a b : ℕ) (o : Option Transfer) (x : Transfer) → a ≤ b → due_by a o ≡ Some x → due_by b o ≡ Some x
stays_due a b o x le e = grind (arith, nat_tests, le, e)

due_after : (a b : ℕ) (o : Option Transfer) (x : Transfer) → due_by a o ≡ None → due_by b o ≡ Some x → a ≤ x.ac_date
due_after a b o x e f = grind (arith, nat_tests, e, f)

lived-law : (p : PolicyRules) (a b : ℕ) (d : Domain) (o q : Option Transfer) → a ≤ b → d.deletion ≡ None → due_by a d.transfer ≡ o → due_by b d.transfer ≡ q → (lived p a o d >>= lapse p b) ≡ lived p b q d
lived-law p a b d None None le e f g = quiet p a b d le e g
lived-law p a b d None (Some x) le e f g = between p a b x d (due_after a b d.transfer x f g) e g
lived-law p a b d (Some x) q le e f g =
    let same : q ≡ Some x = sym g ∙ stays_due a b d.transfer x le f in
    rw same (early p a b x d le e)

-- a deleted domain
kept-law : (p : PolicyRules) (b : ℕ) (x : Deletion) (d : Domain) (q r : Bool) → (q ≡ false → r ≡ false) → lapse p b d ≡ cond r (leaves d []) (purged p x d) → (cond q (leaves d []) (purged p x d) >>= lapse p b) ≡ cond r (leaves d []) (purged p x d)
kept-law p b x d true r h e = e
kept-law p b x d false r h e = rw (h refl) refl

law-by : (p : PolicyRules) (a b : ℕ) (d : Domain) (o : Option Deletion) → a ≤ b → d.deletion ≡ o → (lapse_by p a o d >>= lapse p b) ≡ lapse_by p b o d
law-by p a b d None le e = lived-law p a b d (due_by a d.transfer) (due_by b d.transfer) le e refl refl
law-by p a b d (Some x) le e = kept-law p b x d (nat_lt a (purge_at p x)) (nat_lt b (purge_at p x)) (λ h. grind (arith, nat_tests, h)) (ap (λ o. lapse_by p b o d) e)

pub lapse-law : (p : PolicyRules) (a b : ℕ) (d : Domain) → a ≤ b → (lapse p a d >>= lapse p b) ≡ lapse p b d
lapse-law p a b d le = law-by p a b d d.deletion le refl
