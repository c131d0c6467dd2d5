-- Objects that lapse one after another, each looked up by its name, lapse as they do together.
use Rattle.std.proofs.Common.{◌≡◌, ℕ, Bool, true, false, cond, List, [], ◌∷◌, ◌++◌, append-nil, Option, Some, None, refl, sym, ap, ◌∙◌}
use Rattle.std.specs.{Prelude.fold, Cmp.{eq_by_cmp_equiv, Lexicographic.{slice_cmp, nat_list_cmp_total}}}
use Rattle.std.specs.{FinMap.{FinMap, get, get-insert, get-remove, remove, same_map}, Option.option_map_or, Ordering.nat_cmp}
use Rattle.accounts.specs.{declared.{account.Account.Account, entries.Posting.Posting, message.Subject.Subject}, Entries.posted}
use Rattle.accounts.specs.declared.message.Subject.TheVariants as subjects
use Rattle.accounts.proofs.EntryLaws.{postings_commute}
use Rattle.basis.specs.Sweeps.{given, kept}
use Rattle.basis.proofs.{ApartLaws.{get-kept, given_only, tied}, MapLemmas.names_apart}
use Rattle.lifecycle.specs.{declared.lapsed.Lapsed.Lapsed, Lapse.{lapse, lapse_contact}}
use Rattle.objects.specs.declared.{contact.Contact.Contact, domain.Domain.Domain}
use Rattle.policy.specs.Rules.{PolicyRules}
use Rattle.model.specs.Lapse.{among, at, is_named, lapse as lapse_registry, lapse_if, lapse_one, lapse_some, only, put_or_drop, with_contact_lapsed, with_domain_lapsed}
use Rattle.model.specs.{LapseLaws.{EachDueLapsesAsAll, EachLapsesAsSome, LapsesOnFromEach}, Registry.Registry}
use Rattle.model.proofs.LapseLaws.{all-due-lapse-as-all, lapses-on-from-some, some-lapse-together}
use Rattle.model.proofs.SweepLemmas.{Named, given-still, kept-still, registry, swept-still}

-- ---- one map

module _ {X : Type 0} (l : X → Lapsed X) (m : Named X) (name : List ℕ) where
  -- those of other names stay
  abbrev at_name : List ℕ → X → Lapsed X
  at_name n x = lapse_if (is_named name n) (l x) x

  get-put_or_drop : (x : Option X) (q : List ℕ) → get (put_or_drop m name x) q ≡ cond (is_named q name) x (get m q)
  get-put_or_drop None q = get-remove nat_list_cmp_total m name q
  get-put_or_drop (Some x) q = get-insert nat_list_cmp_total m name x q

  untouched : (x : Option X) → x ≡ option_map_or (λ y. Some y) x None
  untouched None = refl
  untouched (Some y) = refl

  here : (q : List ℕ) (b : Bool) → is_named name q ≡ b → cond b (option_map_or (λ x. (l x).object) (get m name) None) (get m q) ≡ option_map_or (λ x. (lapse_if b (l x) x).object) (get m q) None
  here q true e = ap (λ (n : List ℕ). option_map_or (λ x. (l x).object) (get m n) None) (tied (slice_cmp nat_cmp) nat_list_cmp_total names_apart name q e)
  here q false e = untouched (get m q)

  left-one : put_or_drop m name (option_map_or (λ x. (l x).object) (get m name) None) ≡ kept (λ n x. (at_name n x).object) m
  left-one = same_map nat_list_cmp_total names_apart _ _ (λ q.
      get-put_or_drop _ q
      ∙ ap (λ b. cond b (option_map_or (λ x. (l x).object) (get m name) None) (get m q)) ((eq_by_cmp_equiv nat_list_cmp_total).symm q name)
      ∙ here q (is_named name q) refl
      ∙ sym (get-kept (slice_cmp nat_cmp) nat_list_cmp_total names_apart (λ n x. (at_name n x).object) m q))

  gives-one : (a : FinMap nat_cmp Account) → fold posted a (given (λ n x. (at_name n x).postings) m) ≡ fold posted a (option_map_or (λ x. (l x).postings) (get m name) [])
  gives-one a = given_only (slice_cmp nat_cmp) nat_list_cmp_total names_apart posted postings_commute (λ n x. (l x).postings) m name a

  gone : (b : Bool) (q : List ℕ) → is_named q name ≡ b → get m name ≡ None → get m q ≡ cond b None (get m q)
  gone true q e none = ap (get m) (tied (slice_cmp nat_cmp) nat_list_cmp_total names_apart q name e) ∙ none
  gone false q e none = refl

  absent : get m name ≡ None → m ≡ remove m name
  absent none = same_map nat_list_cmp_total names_apart _ _ (λ q. gone (is_named q name) q refl none ∙ sym (get-remove nat_list_cmp_total m name q))

-- ---- one object

module _ (p : PolicyRules) (t : ℕ) (name : List ℕ) (s : Registry) where
  contact-found : (o : Option Contact) → get s.contacts name ≡ o → with_contact_lapsed t name o s
      ≡ registry (put_or_drop s.contacts name (option_map_or (λ c. (lapse_contact t c).object) o None)) s.hosts s.domains (fold posted s.accounts (option_map_or (λ c. (lapse_contact t c).postings) o [])) s.clock
  contact-found None e = ap (λ (m : Named Contact). registry m s.hosts s.domains s.accounts s.clock) (absent (lapse_contact t) s.contacts name e)
  contact-found (Some c) e = refl

  domain-found : (o : Option Domain) → get s.domains name ≡ o → with_domain_lapsed p t name o s
      ≡ registry s.contacts s.hosts (put_or_drop s.domains name (option_map_or (λ d. (lapse p t d).object) o None)) (fold posted s.accounts (option_map_or (λ d. (lapse p t d).postings) o [])) s.clock
  domain-found None e = ap (λ (m : Named Domain). registry s.contacts s.hosts m s.accounts s.clock) (absent (lapse p t) s.domains name e)
  domain-found (Some d) e = refl

  pub one-lapses : (subject : Subject) → lapse_one p t subject name s ≡ lapse_some p (only subject name) t s
  one-lapses subjects.Contact = contact-found (get s.contacts name) refl ∙ (λ i. registry
      (left-one (lapse_contact t) s.contacts name i)
      s.hosts
      (sym (kept-still s.domains) i)
      (sym (ap (λ (es : List Posting). fold posted s.accounts es) (ap (λ (fs : List Posting). given (λ n c. (at_name (lapse_contact t) s.contacts name n c).postings) s.contacts ++ fs) (given-still s.domains) ∙ append-nil (given (λ n c. (at_name (lapse_contact t) s.contacts name n c).postings) s.contacts))
      ∙ gives-one (lapse_contact t) s.contacts name s.accounts) i)
      s.clock)
  one-lapses subjects.Domain = domain-found (get s.domains name) refl ∙ (λ i. registry
      (sym (kept-still s.contacts) i)
      s.hosts
      (left-one (lapse p t) s.domains name i)
      (sym (ap (λ (fs : List Posting). fold posted s.accounts (fs ++ given (λ n d. (at_name (lapse p t) s.domains name n d).postings) s.domains)) (given-still s.contacts)
      ∙ gives-one (lapse p t) s.domains name s.accounts) i)
      s.clock)

-- ---- one after another

pub each-lapses-as-some : EachLapsesAsSome
each-lapses-as-some p t [] s = sym (swept-still s)
each-lapses-as-some p t (object ∷ objects) s =
    each-lapses-as-some p t objects (lapse_one p t object.0 object.1 s)
    ∙ ap (lapse_some p (among objects) t) (one-lapses p t object.1 s object.0)
    ∙ some-lapse-together p (only object.0 object.1) (among objects) t s

pub each-due-lapses-as-all : EachDueLapsesAsAll
each-due-lapses-as-all p t objects s due = ap (at t) (each-lapses-as-some p t objects s) ∙ all-due-lapse-as-all p t (among objects) s due

pub lapses-on-from-each : LapsesOnFromEach
lapses-on-from-each p objects a b clock le s =
    ap (λ (x : Registry). lapse_registry p b (at clock x)) (each-lapses-as-some p a objects s) ∙ lapses-on-from-some p (among objects) a b clock le s
