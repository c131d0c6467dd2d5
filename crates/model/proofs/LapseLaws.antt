-- What time alone makes of a registry is one thing, in whatever steps and order it is done.
use Rattle.std.proofs.Common.{◌≡◌, ◌≤◌, ℕ, Bool, true, false, ◌||◌, List, [], append-nil, Option, Some, None, refl, sym, ap, subst, ◌∙◌, arith}
use Rattle.std.specs.{Cmp.Lexicographic.{slice_cmp, nat_list_cmp_total}, FinMap.get, Option.option_map_or, Ordering.nat_cmp}
use Rattle.accounts.specs.declared.entries.Posting.{Posting}
use Rattle.basis.specs.Sweeps.{kept}
use Rattle.basis.proofs.{ApartLaws.get-kept, MapLemmas.names_apart}
use Rattle.lifecycle.specs.{declared.lapsed.Lapsed.Lapsed, Lapse.{◌>>=◌, contact_completed, due_by, lapse, lapse_contact, leaves, next}}
use Rattle.lifecycle.proofs.{ContactLaws.is_contact_lapse, DueLaws.{lapse-due, lapse-stays}, LapseLaws.lapse-law}
use Rattle.objects.specs.declared.{contact.Contact.Contact, domain.Domain.Domain}
use Rattle.policy.specs.Rules.{PolicyRules}
use Rattle.model.specs.Lapse.{Choice, accounts_at, at, contacts_at, domains_at, either, lapse as lapse_registry, lapse_if, lapse_some, nothing}
use Rattle.model.specs.LapseLaws.{AllDueLapseAsAll, HaveOneFuture, LapsedIsSettled, LapsesInSteps, LapsesOnFromSome, SettledIsNow, SomeLapseInAnyOrder, SomeLapseTogether}
use Rattle.model.specs.Registry.{Registry}
use Rattle.model.proofs.SweepLemmas.{Named, left, swept-again, swept-alike, swept-still}

-- ---- the lapse of an object

contact-law : (a b : ℕ) → a ≤ b → (c : Contact) → lapse_contact b c ≡ (lapse_contact a c >>= lapse_contact b)
contact-law a b le c = sym ((is_contact_lapse a c (lapse_contact a c) refl).on b le)

domain-law : (p : PolicyRules) (a b : ℕ) → a ≤ b → (d : Domain) → lapse p b d ≡ (lapse p a d >>= lapse p b)
domain-law p a b le d = sym (lapse-law p a b d le)

contact-stays : (t : ℕ) (c : Contact) → due_by t c.transfer ≡ None → lapse_contact t c ≡ leaves c []
contact-stays t c none = ap (λ o. contact_completed o c) none

module _ {X : Type 0} (earlier later : X → Lapsed X) where
  -- chosen or not, to lapse on is to lapse at once
  if-on : ((x : X) → later x ≡ (earlier x >>= later)) → (chosen : Bool) (x : X) → later x ≡ (lapse_if chosen (earlier x) x >>= later)
  if-on law true x = law x
  if-on law false x = refl

module _ {X : Type 0} (l : X → Lapsed X) (law : (x : X) → l x ≡ (l x >>= l)) where
  then-still : (o : Option X) (es : List Posting) → (let r : Lapsed X = record { object = o; postings = es } in r) ≡ next o es (λ y. lapse_if false (l y) y)
  then-still None es = refl
  then-still (Some x) es = ap (λ (fs : List Posting). let r : Lapsed X = record { object = Some x; postings = fs } in r) (sym (append-nil es))

  -- by one choice and then by another
  if-or : (p q : Bool) (x : X) → lapse_if (p || q) (l x) x ≡ (lapse_if p (l x) x >>= (λ y. lapse_if q (l y) y))
  if-or true true x = law x
  if-or true false x = then-still (l x).object (l x).postings
  if-or false q x = refl

-- ---- one lapse after another

pub lapses-on-from-some : LapsesOnFromSome
unfolding contacts_at domains_at accounts_at
lapses-on-from-some p chosen a b clock le s = ap (at b) (swept-again
    (λ name c. lapse_if (chosen.contacts name) (lapse_contact a c) c) (λ name. lapse_contact b) (λ name. lapse_contact b)
    (λ name d. lapse_if (chosen.domains name) (lapse p a d) d) (λ name. lapse p b) (λ name. lapse p b)
    (λ name c. if-on (lapse_contact a) (lapse_contact b) (contact-law a b le) (chosen.contacts name) c)
    (λ name d. if-on (lapse p a) (lapse p b) (domain-law p a b le) (chosen.domains name) d) s)

pub lapses-on : LapsesInSteps
unfolding contacts_at domains_at accounts_at
lapses-on p a b le s = ap (at b) (swept-again
    (λ name. lapse_contact a) (λ name. lapse_contact b) (λ name. lapse_contact b)
    (λ name. lapse p a) (λ name. lapse p b) (λ name. lapse p b)
    (λ name. contact-law a b le) (λ name. domain-law p a b le) s)

pub some-lapse-together : SomeLapseTogether
some-lapse-together p x y t s = swept-again
    (λ name c. lapse_if (x.contacts name) (lapse_contact t c) c) (λ name c. lapse_if (y.contacts name) (lapse_contact t c) c) (λ name c. lapse_if (x.contacts name || y.contacts name) (lapse_contact t c) c)
    (λ name d. lapse_if (x.domains name) (lapse p t d) d) (λ name d. lapse_if (y.domains name) (lapse p t d) d) (λ name d. lapse_if (x.domains name || y.domains name) (lapse p t d) d)
    (λ name. if-or (lapse_contact t) (contact-law t t (omega arith)) (x.contacts name) (y.contacts name))
    (λ name. if-or (lapse p t) (domain-law p t t (omega arith)) (x.domains name) (y.domains name)) s

or-turned : (a b : Bool) → (a || b) ≡ (b || a)
or-turned true true = refl
or-turned true false = refl
or-turned false true = refl
or-turned false false = refl

either-turned : (x y : Choice) → either x y ≡ either y x
either-turned x y = λ i. record { contacts = λ name. or-turned (x.contacts name) (y.contacts name) i; domains = λ name. or-turned (x.domains name) (y.domains name) i }

pub some-lapse-in-any-order : SomeLapseInAnyOrder
some-lapse-in-any-order p x y t s = some-lapse-together p x y t s ∙ ap (λ (chosen : Choice). lapse_some p chosen t s) (either-turned x y) ∙ sym (some-lapse-together p y x t s)

pub have-one-future : HaveOneFuture
have-one-future p x y t same le =
    sym (lapses-on p x.clock t le x) ∙ ap (lapse_registry p t) same
    ∙ lapses-on p y.clock t (subst (λ (clock : ℕ). clock ≤ t) (ap (λ (s : Registry). s.clock) same) le) y

-- ---- where nothing is due

if-stays : {X : Type 0} (chosen : Bool) (l : Lapsed X) (x : X) → (chosen ≡ false → l ≡ leaves x []) → lapse_if chosen l x ≡ l
if-stays true l x stays = refl
if-stays false l x stays = sym (stays refl)

pub all-due-lapse-as-all : AllDueLapseAsAll
unfolding contacts_at domains_at accounts_at
all-due-lapse-as-all p t chosen s due = ap (at t) (swept-alike
    (λ name c. lapse_if (chosen.contacts name) (lapse_contact t c) c) (λ name. lapse_contact t)
    (λ name d. lapse_if (chosen.domains name) (lapse p t d) d) (λ name. lapse p t) s
    (λ name c found. if-stays (chosen.contacts name) (lapse_contact t c) c (λ other. contact-stays t c (due.contacts name c found other)))
    (λ name d found. if-stays (chosen.domains name) (lapse p t d) d (λ other. lapse-stays p t d (due.domains name d found other))))

pub settled-is-now : SettledIsNow
settled-is-now p s settled =
    sym (all-due-lapse-as-all p s.clock nothing s (record { contacts = λ name c found other. settled.contacts name c found; domains = λ name d found other. settled.domains name d found }))
    ∙ ap (at s.clock) (swept-still s)

-- what a map of what is left holds was left of something
pub left-of : {X : Type 0} (f : List ℕ → X → Lapsed X) (m : Named X) (name : List ℕ) (y : X) → get (kept (left f) m) name ≡ Some y → (x : X) × (get m name ≡ Some x) × (left f name x ≡ Some y)
left-of f m name y found = by (get m name) refl (sym (get-kept (slice_cmp nat_cmp) nat_list_cmp_total names_apart (left f) m name) ∙ found)
  where
    by : (o : Option _) → get m name ≡ o → option_map_or (left f name) o None ≡ Some y → (x : _) × (get m name ≡ Some x) × (left f name x ≡ Some y)
    by None e found = cc
    by (Some x) e found = (x, e, found)

pub lapsed-is-settled : LapsedIsSettled
unfolding contacts_at domains_at accounts_at
lapsed-is-settled p t s = record {
  contacts = λ name c found. let was = left-of (λ name. lapse_contact t) s.contacts name c found in (is_contact_lapse t was.0 (lapse_contact t was.0) refl).due_after c was.2;
  domains = λ name d found. let was = left-of (λ name. lapse p t) s.domains name d found in lapse-due p t was.0 d was.2;
}
