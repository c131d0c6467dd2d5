-- What time alone makes of a well-formed registry is well formed.
use Rattle.std.proofs.Common.{◌≡◌, inl, ℕ, ◌≤◌, ◌+◌, max, List, Option, Some, None, IsSome, is_some, refl, sym, ap, subst, ◌∙◌, arith}
use Rattle.std.specs.Option.{option_map_or}
use Rattle.decisions.proofs.Words.{account_of, approved, AreApart, Contact, contact_completed, contact_moved, contact_roid, Deletion, Domain, domain_roid}
use Rattle.decisions.proofs.Words.{due_by, FinMap, fold, get, HasObjects, IsContactOf, IsDeletion, IsDomainOf, IsTransfer, lapse, lapse_by, lapse_contact}
use Rattle.decisions.proofs.Words.{Lapsed, lapsed, left, left-of, lived, moved, names_apart, nat_cmp, nat_list_cmp_total, PolicyRules, posted}
use Rattle.decisions.proofs.Words.{postings, raised, Registry, Roid, same_Some, slice_cmp, superordinate_of, Transfer, turns}
use Rattle.decisions.proofs.GrowthLemmas.{Grows, contact-grown, domain-grown, host-grown-below}
use Rattle.decisions.proofs.PostingLemmas.{due-is, due-transfer, kept-posted, postings-to, serial-posted, lapse-cases}
use Rattle.basis.specs.Sweeps.{kept}
use Rattle.basis.proofs.ApartLaws.{get-kept}
use Rattle.model.specs.Lapse.{accounts_at, contacts_at, domains_at, lapse as lapse_registry}
use Rattle.decisions.proofs.{KeepingLemmas.kept-grown, NamedLemmas.is-there, NamedLemmas.there-is}

-- ---- what is left of a domain

-- the domain with other years
abbrev with_years : ℕ → Domain → Domain
with_years years d = record d { years = years }

-- the domain with other years, in the hands of the requester
abbrev taken_over : Transfer → ℕ → Domain → Domain
taken_over x years d = record d { sponsor = x.requester; transferred = Some x.ac_date; years = years; transfer = Some (approved x) }

-- the domain once a transfer of it is due, with the years that it had by then
abbrev pub transferred_by : Transfer → Domain → Domain
transferred_by x d = moved x (raised (turns d x.ac_date) d)

module _ (p : PolicyRules) (t : ℕ) (d : Domain) (P : Domain → Type 0) (deleted : (x : Deletion) → d.deletion ≡ Some x → P d) (aged : d.deletion ≡ None → P (raised (turns d t) d))
    (transferred : d.deletion ≡ None → (x : Transfer) → due_by t d.transfer ≡ Some x → P (raised (turns (transferred_by x d) t) (transferred_by x d))) where
  by-transfer : d.deletion ≡ None → (o : Option Transfer) → due_by t d.transfer ≡ o → (e : Domain) → (lived p t o d).object ≡ Some e → P e
  by-transfer alive None due e found = subst P (same_Some (raised (turns d t) d) e found) (aged alive)
  by-transfer alive (Some x) due e found = subst P (same_Some (raised (turns (transferred_by x d) t) (transferred_by x d)) e found) (transferred alive x due)

  pub domain-lapsed : (e : Domain) → (lapse p t d).object ≡ Some e → P e
  domain-lapsed = lapse-cases p t d (λ (l : Lapsed Domain). (e : Domain) → l.object ≡ Some e → P e) (λ x gone e found. subst P (same_Some d e found) (deleted x gone)) (λ x past e found. absurd (cc)) by-transfer

-- a deleted one as it was, and any other with other years, perhaps transferred
pub domain-left : (p : PolicyRules) (t : ℕ) (d : Domain) (P : Domain → Type 0) → ((x : Deletion) → d.deletion ≡ Some x → P d) → (d.deletion ≡ None → (years : ℕ) → P (with_years years d))
    → (d.deletion ≡ None → (x : Transfer) → due_by t d.transfer ≡ Some x → (years : ℕ) → P (taken_over x years d)) → (e : Domain) → (lapse p t d).object ≡ Some e → P e
domain-left p t d P deleted aged transferred = domain-lapsed p t d P deleted (λ alive. aged alive (d.years + turns d t))
    (λ alive x due. transferred alive x due ((transferred_by x d).years + turns (transferred_by x d) t))

-- one that isn't deleted stays
lived-stays : (p : PolicyRules) (t : ℕ) (d : Domain) (o : Option Transfer) → IsSome (lived p t o d).object
lived-stays p t d o = grind arith

-- ---- what is left of a contact

module _ (t : ℕ) (c : Contact) (P : Contact → Type 0) (same : P c) (transferred : (x : Transfer) → due_by t c.transfer ≡ Some x → P (contact_moved x c)) where
  by-completion : (o : Option Transfer) (e : Contact) → due_by t c.transfer ≡ o → (contact_completed o c).object ≡ Some e → P e
  by-completion None e due found = subst P (same_Some c e found) same
  by-completion (Some x) e due found = subst P (same_Some (contact_moved x c) e found) (transferred x due)

  pub contact-left : (e : Contact) → (lapse_contact t c).object ≡ Some e → P e
  contact-left e found = by-completion (due_by t c.transfer) e refl found

completed-stays : (c : Contact) (o : Option Transfer) → IsSome (contact_completed o c).object
completed-stays c o = grind arith

-- ---- what stands at a name

module _ {X : Type 0} (f : List ℕ → X → Lapsed X) (m : FinMap (slice_cmp nat_cmp) X) where
  -- what is left of something is there
  left-there : (name : List ℕ) (x : X) → get m name ≡ Some x → IsSome (f name x).object → IsSome (get (kept (left f) m) name)
  left-there name x at there = ap is_some (get-kept (slice_cmp nat_cmp) nat_list_cmp_total names_apart (left f) m name ∙ ap (λ (o : Option X). option_map_or (left f name) o None) at) ∙ there

  -- ROIDs stay
  left-apart : (roid_of : X → Roid) → ((name : List ℕ) (x y : X) → left f name x ≡ Some y → roid_of y ≡ roid_of x) → AreApart roid_of m → AreApart roid_of (kept (left f) m)
  left-apart roid_of keeps apart a b x y at-a at-b same =
      let first = left-of f m a x at-a in
      let second = left-of f m b y at-b in
      apart a b first.0 second.0 first.1 second.1 (sym (keeps a first.0 x first.2) ∙ same ∙ keeps b second.0 y second.2)

-- ---- objects that lapse by the clock

module _ (p : PolicyRules) (t : ℕ) (s : Registry) (past : t ≤ s.clock) (is : HasObjects p s) where
  abbrev after : Registry
  after = record s { contacts = kept (left (λ name. lapse_contact t)) s.contacts; domains = kept (left (λ name. lapse p t)) s.domains }

  grows : Grows p p s after
  grows = record { zone = refl; place = λ r place. place; clock = omega arith; serial = λ r. omega arith }

  -- the transfer is over
  ended : (created : ℕ) (transferred : Option ℕ) (x : Transfer) → x.ac_date ≤ t → IsTransfer p after created transferred x → IsTransfer p after created (Some x.ac_date) (approved x)
  ended created transferred x due k = search arith

  contact-fits : (name : List ℕ) (c e : Contact) → IsContactOf p s name c → (lapse_contact t c).object ≡ Some e → IsContactOf p after name e
  contact-fits name c e of =
      let k = contact-grown p p s after grows name c of in
      contact-left t c (IsContactOf p after name) k (λ x due.
      let transfer = due-transfer p after t c.created c.transferred c.transfer x due k.transfer in
      let come = (due-is t c.transfer x due).1 in
      let over = ended c.created c.transferred x come transfer in
      search arith) e

  contact-there : (name : List ℕ) → IsSome (get s.contacts name) → IsSome (get after.contacts name)
  contact-there name there =
      let found = there-is (get s.contacts name) there in
      left-there (λ name. lapse_contact t) s.contacts name found.0 found.1 (completed-stays found.0 (due_by t found.0.transfer))

  domain-fits : (name : List ℕ) (d e : Domain) → IsDomainOf p s name d → (lapse p t d).object ≡ Some e → IsDomainOf p after name e
  domain-fits name d e of =
      let k : IsDomainOf p after name d = domain-grown p p s after grows name d d.links (λ host there. inl there) (λ contact named. contact-there contact (of.is_at.contacts contact named)) of.is_at.hosts of in
      let undeleted : (f : Domain) → d.deletion ≡ None → IsDeletion p after f d.deletion = λ f alive. subst (IsDeletion p after f) (sym alive) tt in
      domain-left p t d (IsDomainOf p after name) (λ x gone. k)
      (λ alive years. search (undeleted (with_years years d) alive))
      (λ alive x due years.
      let transfer = due-transfer p after t d.created d.transferred d.transfer x due k.transfer in
      let come = (due-is t d.transfer x due).1 in
      let over = ended d.created d.transferred x come transfer in
      search (arith, undeleted (taken_over x years d) alive)) e

  -- a domain that a host lies below isn't deleted, so it stays
  below-stays : (host : List ℕ) → IsSome (get s.hosts host) → (name : List ℕ) (d : Domain) → get s.domains name ≡ Some d → superordinate_of p.zone host ≡ Some name → (o : Option Deletion) → d.deletion ≡ o → IsSome (lapse_by p t o d).object
  below-stays host there name d at above None alive = lived-stays p t d (due_by t d.transfer)
  below-stays host there name d at above (Some x) gone =
      let k = is.domains name d at in
      absurd ((subst (IsDeletion p s d) gone k.is_at.deletion).hosts host there (above ∙ ap (λ (n : List ℕ). Some n) (sym k.is_at.named)))

  superordinate-there : (host : List ℕ) → IsSome (get s.hosts host) → (name : List ℕ) → superordinate_of p.zone host ≡ Some name → IsSome (get s.domains name) → IsSome (get after.domains name)
  superordinate-there host there name above domain =
      let found = there-is (get s.domains name) domain in
      left-there (λ name. lapse p t) s.domains name found.0 found.1 (below-stays host there name found.0 found.1 above found.0.deletion refl)

  kept-objects : HasObjects p after
  kept-objects = record {
    identities = record {
      accounts = is.identities.accounts;
      contact_roids = left-apart (λ name. lapse_contact t) s.contacts contact_roid (λ name c e. contact-left t c (λ (x : Contact). x.roid ≡ c.roid) refl (λ x due. refl) e) is.identities.contact_roids;
      host_roids = is.identities.host_roids;
      domain_roids = left-apart (λ name. lapse p t) s.domains domain_roid (λ name d e. domain-left p t d (λ (x : Domain). x.roid ≡ d.roid) (λ x gone. refl) (λ alive years. refl) (λ alive x due years. refl) e) is.identities.domain_roids;
    };
    contacts = λ name e found. let was = left-of (λ name. lapse_contact t) s.contacts name e found in contact-fits name was.0 e (is.contacts name was.0 was.1) was.2;
    hosts = λ name h found. host-grown-below p p s after grows name h (superordinate-there name (is-there (get s.hosts name) h found)) (is.hosts name h found);
    domains = λ name e found. let was = left-of (λ name. lapse p t) s.domains name e found in domain-fits name was.0 e (is.domains name was.0 was.1) was.2;
  }

-- ---- a registry that lapses

pub kept-lapse : (p : PolicyRules) (t : ℕ) (s : Registry) → s.clock ≤ t → HasObjects p s → HasObjects p (lapse_registry p t s)
unfolding contacts_at domains_at accounts_at
kept-lapse p t s le is =
    let posted_to : Registry = record s { accounts = fold posted s.accounts (postings (λ name. lapse_contact t) (λ name. lapse p t) s) } in
    let with_postings : HasObjects p posted_to = kept-posted p (postings (λ name. lapse_contact t) (λ name. lapse p t) s) (postings-to p s t is) s is in
    let later : Registry = record posted_to { clock = t } in
    kept-objects p t later (omega arith) (kept-grown p p posted_to posted_to.accounts t (record { zone = refl; place = λ r place. place; clock = omega (arith, le); serial = λ r. omega arith }) with_postings.identities.accounts with_postings)

-- serials are taken by commands alone
pub serial-lapsed : (p : PolicyRules) (moment r : ℕ) (s : Registry) → (account_of r (lapsed p moment s)).serial ≡ (account_of r s).serial
unfolding accounts_at
serial-lapsed p moment r s = let t : ℕ = max moment s.clock in serial-posted r (postings (λ name. lapse_contact t) (λ name. lapse p t) s) s
