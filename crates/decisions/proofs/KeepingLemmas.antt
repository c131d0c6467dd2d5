-- Each change keeps a registry well formed, where what it puts or takes away fits.
use Rattle.std.proofs.Common.{◌≡◌, ◌≢◌, ◌↔◌, ◌⊎◌, inl, inr, ⊎_elim, ℕ, ◌≤◌, Bool, true, false, cond, not, List, filter, Some, IsSome, is_some, refl, sym, ap, subst, ◌∙◌, arith}
use Rattle.std.proofs.lemmas.Bool.{and_parts, not-true, or_cases}
use Rattle.decisions.proofs.Words.{Account, account_of, AreApart, bytes_decides, bytes_eq, changed, cond_both, Contact, Domain, domain_roid, DropContact, host_renamed, may_rename}
use Rattle.decisions.proofs.Words.{add, any-add, contact_roid, DropDomain, DropHost, eq_by_cmp, eq_by_cmp_equiv, Equal-is, FinMap, get, get-insert, has_name}
use Rattle.decisions.proofs.Words.{HasObjects, Host, host_roid, insert, IsContactOf, IsDomainOf, IsHostOf, IsRegistrar, links_with_host_renamed, map_values}
use Rattle.decisions.proofs.Words.{names_contact, names_host, nat_cmp, nat_cmp-IsAntisymmetric, nat_cmp_total, PolicyRules, precedes, PutContact, PutDomain}
use Rattle.decisions.proofs.Words.{PutHost, Registry, remove, renamed, RenameHost, Roid, slice_cmp, superordinate_of, with_account, with_host_renamed}
use Rattle.decisions.proofs.Words.{cases_Bool, is_same_roid, same-roids, same_Some}
use Rattle.decisions.proofs.GrowthLemmas.{Grows, contact-grown, domain-grown, host-grown, host-grown-below}
use Rattle.decisions.proofs.NamedLemmas.{drop-cases, drop-keeps, drop-there, is-there, put-cases, put-is, put-keeps, put-there, remade-cases, remade-keeps}
use Rattle.decisions.proofs.{LinkLemmas.has_name-filter, NamedLemmas.at-put, ViewLemmas.account-keep}

-- ---- the clock and the accounts

-- A policy and a registry grow, and the objects stay.
pub kept-grown : (p q : PolicyRules) (s : Registry) (accounts : FinMap nat_cmp Account) (clock : ℕ) → Grows p q s (record s { accounts = accounts; clock = clock })
    → ((r : ℕ) → IsSome (get accounts r) ↔ IsRegistrar q r) → HasObjects p s → HasObjects q (record s { accounts = accounts; clock = clock })
kept-grown p q s accounts clock grows places is =
    let t : Registry = record s { accounts = accounts; clock = clock } in
    record {
      identities = search places;
      contacts = λ name c at. contact-grown p q s t grows name c (is.contacts name c at);
      hosts = λ name h at. host-grown p q s t grows (λ domain there. there) name h (is.hosts name h at);
      domains = λ name d at. let k = is.domains name d at in domain-grown p q s t grows name d d.links (λ host there. inl there) k.is_at.contacts k.is_at.hosts k;
    }

-- a registrar's account is put
pub placed : (accounts : FinMap nat_cmp Account) (r : ℕ) (a : Account) (q : ℕ) → IsSome (get (insert accounts r a) q) ↔ ((q ≡ r) ⊎ IsSome (get accounts q))
placed accounts r a q = by (eq_by_cmp nat_cmp q r) refl (ap is_some (get-insert nat_cmp_total accounts r a q))
  where
    by : (b : Bool) → eq_by_cmp nat_cmp q r ≡ b → is_some (get (insert accounts r a) q) ≡ is_some (cond b (Some a) (get accounts q)) → IsSome (get (insert accounts r a) q) ↔ ((q ≡ r) ⊎ IsSome (get accounts q))
    by true same e = (λ there. inl (nat_cmp-IsAntisymmetric q r ((Equal-is (nat_cmp q r)).0 same)), λ either. e)
    by false same e = (λ there. inr (sym e ∙ there), ⊎_elim (λ is. absurd (let never : true ≡ false = sym ((eq_by_cmp_equiv nat_cmp_total).refl r) ∙ ap (λ (n : ℕ). eq_by_cmp nat_cmp n r) (sym is) ∙ same in cc)) (λ there. e ∙ there))

-- an account of the policy changes, and its serial doesn't fall
pub kept-account : (p : PolicyRules) (r : ℕ) (f : Account → Account) → ((a : Account) → a.serial ≤ (f a).serial) → (s : Registry) → IsRegistrar p r → HasObjects p s → HasObjects p (with_account r f s)
kept-account p r f rises s place is =
    let accounts : FinMap nat_cmp Account = insert s.accounts r (f (account_of r s)) in
    kept-grown p p s accounts s.clock (record { zone = refl; place = λ q place. place; clock = omega arith; serial = λ q. account-keep (λ (a : Account). (account_of q s).serial ≤ a.serial) s r f q (λ own le. rises (account_of q s)) (omega arith) })
    (λ q. (λ there. ⊎_elim (λ same. subst (IsRegistrar p) (sym same) place) (is.identities.accounts q).0 ((placed s.accounts r (f (account_of r s)) q).0 there), λ of. (placed s.accounts r (f (account_of r s)) q).1 (inr ((is.identities.accounts q).1 of)))) is

-- ---- ROIDs

-- a ROID stands at no other name
abbrev pub IsItsOwn : {X : Type 0} → (X → Roid) → FinMap (slice_cmp nat_cmp) X → List ℕ → Roid → Type 0
IsItsOwn {X} roid_of m k roid = (n : List ℕ) (x : X) → get m n ≡ Some x → roid_of x ≡ roid → n ≡ k

-- what stands at a name is this one, where its ROID stands at no other name, or has another ROID
pub one-or-apart : {X : Type 0} (roid_of : X → Roid) (m : FinMap (slice_cmp nat_cmp) X) (k : List ℕ) (v : X) → get m k ≡ Some v → IsItsOwn roid_of m k (roid_of v)
    → (n : List ℕ) (x : X) → get m n ≡ Some x → (v ≡ x) ⊎ (is_same_roid (roid_of v) (roid_of x) ≡ false)
one-or-apart roid_of m k v at own n x there = ⊎_elim
    (λ same. inl (same_Some v x (sym at ∙ ap (get m) (sym (own n x there (sym (same-roids (roid_of v) (roid_of x) same)))) ∙ there)))
    (λ other. inr other) (cases_Bool (is_same_roid (roid_of v) (roid_of x)))

module _ {X : Type 0} (roid_of : X → Roid) (m : FinMap (slice_cmp nat_cmp) X) (apart : AreApart roid_of m) where
  -- a value in place of another of its ROID
  pub own-put : (k : List ℕ) (v : X) (n : List ℕ) (w : X) → get m n ≡ Some w → roid_of w ≡ roid_of v → n ≡ k → IsItsOwn roid_of (insert m k v) k (roid_of v)
  own-put k v n w at same here a x there alike = ⊎_elim (λ put. put.0) (λ before. apart a n x w before at (alike ∙ sym same) ∙ here) (put-cases m k v a x there)

  apart-put : (k : List ℕ) (v : X) → IsItsOwn roid_of m k (roid_of v) → AreApart roid_of (insert m k v)
  apart-put k v own a b x y at-a at-b same = ⊎_elim
      (λ first. ⊎_elim (λ second. first.0 ∙ sym second.0) (λ second. first.0 ∙ sym (own b y second (sym same ∙ ap roid_of (sym first.1)))) (put-cases m k v b y at-b))
      (λ first. ⊎_elim (λ second. own a x first (same ∙ ap roid_of (sym second.1)) ∙ sym second.0) (λ second. apart a b x y first second same) (put-cases m k v b y at-b))
      (put-cases m k v a x at-a)

  apart-drop : (k : List ℕ) → AreApart roid_of (remove m k)
  apart-drop k a b x y at-a at-b same = apart a b x y (drop-cases m k a x at-a).1 (drop-cases m k b y at-b).1 same

  apart-remade : (f : X → X) → ((x : X) → roid_of (f x) ≡ roid_of x) → AreApart roid_of (map_values (λ name. f) m)
  apart-remade f keeps a b x y at-a at-b same =
      let first = remade-cases f m a x at-a in
      let second = remade-cases f m b y at-b in
      apart a b first.0 second.0 first.1 second.1 (sym (keeps first.0) ∙ ap roid_of first.2 ∙ same ∙ ap roid_of (sym second.2) ∙ keeps second.0)

-- ---- objects are put and taken away

abbrev Contacts : Type 0
Contacts = FinMap (slice_cmp nat_cmp) Contact

abbrev Hosts : Type 0
Hosts = FinMap (slice_cmp nat_cmp) Host

abbrev Domains : Type 0
Domains = FinMap (slice_cmp nat_cmp) Domain

abbrev with_objects : Contacts → Hosts → Domains → Registry → Registry
with_objects contacts hosts domains s = record s { contacts = contacts; hosts = hosts; domains = domains }

-- neither the clock nor an account changes
same-time : (p : PolicyRules) (s : Registry) (contacts : Contacts) (hosts : Hosts) (domains : Domains) → Grows p p s (with_objects contacts hosts domains s)
same-time p s contacts hosts domains = record { zone = refl; place = λ r place. place; clock = omega arith; serial = λ r. omega arith }

-- no deleted domain is the superordinate domain of a host of this name
abbrev pub IsUndeleted : PolicyRules → Registry → List ℕ → Type 0
IsUndeleted p s host = (n : List ℕ) (d : Domain) → get s.domains n ≡ Some d → IsSome d.deletion → superordinate_of p.zone host ≢ Some d.name

module _ (p : PolicyRules) (s : Registry) (is : HasObjects p s) where
  -- the same domain, where contacts and hosts are there that were
  same-domain : (contacts : Contacts) (hosts : Hosts) (domains : Domains) (name : List ℕ) (d : Domain) → IsDomainOf p s name d
      → ((host : List ℕ) → IsSome (get hosts host) → IsSome (get s.hosts host) ⊎ (IsSome d.deletion → superordinate_of p.zone host ≢ Some d.name))
      → ((contact : List ℕ) → names_contact contact d.links ≡ true → IsSome (get contacts contact))
      → ((host : List ℕ) → names_host host d.links ≡ true → IsSome (get hosts host))
      → IsDomainOf p (with_objects contacts hosts domains s) name d
  same-domain contacts hosts domains name d of free there-contacts there-hosts =
      domain-grown p p s (with_objects contacts hosts domains s) (same-time p s contacts hosts domains) name d d.links free there-contacts there-hosts of

  -- contacts, or hosts, or domains change, and the others stay
  contacts-kept : (contacts : Contacts) → AreApart contact_roid contacts → ((name : List ℕ) (c : Contact) → get contacts name ≡ Some c → IsContactOf p s name c)
      → ((n : List ℕ) (d : Domain) → get s.domains n ≡ Some d → (contact : List ℕ) → names_contact contact d.links ≡ true → IsSome (get s.contacts contact) → IsSome (get contacts contact))
      → HasObjects p (with_objects contacts s.hosts s.domains s)
  contacts-kept contacts apart of there =
      let grows = same-time p s contacts s.hosts s.domains in
      record {
        identities = record { accounts = is.identities.accounts; contact_roids = apart; host_roids = is.identities.host_roids; domain_roids = is.identities.domain_roids };
        contacts = λ n c at. contact-grown p p s _ grows n c (of n c at);
        hosts = λ n h at. host-grown p p s _ grows (λ domain there. there) n h (is.hosts n h at);
        domains = λ n d at. let k = is.domains n d at in same-domain contacts s.hosts s.domains n d k (λ host there. inl there) (λ contact named. there n d at contact named (k.is_at.contacts contact named)) k.is_at.hosts;
      }

  hosts-kept : (hosts : Hosts) → AreApart host_roid hosts → ((name : List ℕ) (h : Host) → get hosts name ≡ Some h → IsHostOf p s name h)
      → ((n : List ℕ) (d : Domain) → get s.domains n ≡ Some d → (host : List ℕ) → IsSome (get hosts host) → IsSome (get s.hosts host) ⊎ (IsSome d.deletion → superordinate_of p.zone host ≢ Some d.name))
      → ((n : List ℕ) (d : Domain) → get s.domains n ≡ Some d → (host : List ℕ) → names_host host d.links ≡ true → IsSome (get s.hosts host) → IsSome (get hosts host))
      → HasObjects p (with_objects s.contacts hosts s.domains s)
  hosts-kept hosts apart of free there =
      let grows = same-time p s s.contacts hosts s.domains in
      record {
        identities = record { accounts = is.identities.accounts; contact_roids = is.identities.contact_roids; host_roids = apart; domain_roids = is.identities.domain_roids };
        contacts = λ n c at. contact-grown p p s _ grows n c (is.contacts n c at);
        hosts = λ n h at. host-grown p p s _ grows (λ domain there. there) n h (of n h at);
        domains = λ n d at. let k = is.domains n d at in same-domain s.contacts hosts s.domains n d k (free n d at) k.is_at.contacts (λ host named. there n d at host named (k.is_at.hosts host named));
      }

  domains-kept : (domains : Domains) → AreApart domain_roid domains → ((name : List ℕ) (d : Domain) → get domains name ≡ Some d → IsDomainOf p s name d)
      → ((n : List ℕ) (h : Host) → get s.hosts n ≡ Some h → (domain : List ℕ) → superordinate_of p.zone n ≡ Some domain → IsSome (get s.domains domain) → IsSome (get domains domain))
      → HasObjects p (with_objects s.contacts s.hosts domains s)
  domains-kept domains apart of there =
      let grows = same-time p s s.contacts s.hosts domains in
      record {
        identities = record { accounts = is.identities.accounts; contact_roids = is.identities.contact_roids; host_roids = is.identities.host_roids; domain_roids = apart };
        contacts = λ n c at. contact-grown p p s _ grows n c (is.contacts n c at);
        hosts = λ n h at. host-grown-below p p s _ grows n h (there n h at) (is.hosts n h at);
        domains = λ n d at. let k = of n d at in same-domain s.contacts s.hosts domains n d k (λ host there. inl there) k.is_at.contacts k.is_at.hosts;
      }

  pub put-contact : (name : List ℕ) (c : Contact) → IsContactOf p s name c → IsItsOwn contact_roid s.contacts name c.roid → HasObjects p (changed p (PutContact c) s)
  put-contact name c fits own = contacts-kept (insert s.contacts c.name c)
      (apart-put contact_roid s.contacts is.identities.contact_roids c.name c (λ n x at same. own n x at same ∙ sym fits.is_at.named))
      (at-put (IsContactOf p s) s.contacts c.name c (subst (λ (n : List ℕ). IsContactOf p s n c) (sym fits.is_at.named) fits) is.contacts)
      (λ n d at contact named there. put-keeps s.contacts c.name c contact there)

  -- a contact that no domain names
  pub drop-contact : (name : List ℕ) → ((n : List ℕ) (d : Domain) → get s.domains n ≡ Some d → names_contact name d.links ≢ true) → HasObjects p (changed p (DropContact name) s)
  drop-contact name unnamed = contacts-kept (remove s.contacts name) (apart-drop contact_roid s.contacts is.identities.contact_roids name)
      (λ n c at. is.contacts n c (drop-cases s.contacts name n c at).1)
      (λ n d at contact named there. drop-keeps s.contacts name contact (λ same. unnamed n d at (ap (λ (q : List ℕ). names_contact q d.links) (sym same) ∙ named)) there)

  pub put-host : (name : List ℕ) (h : Host) → IsHostOf p s name h → IsItsOwn host_roid s.hosts name h.roid → IsSome (get s.hosts name) ⊎ IsUndeleted p s name → HasObjects p (changed p (PutHost h) s)
  put-host name h fits own free = hosts-kept (insert s.hosts h.name h)
      (apart-put host_roid s.hosts is.identities.host_roids h.name h (λ n x at same. own n x at same ∙ sym fits.named))
      (at-put (IsHostOf p s) s.hosts h.name h (subst (λ (n : List ℕ). IsHostOf p s n h) (sym fits.named) fits) is.hosts)
      (λ n d at host there. ⊎_elim
      (λ same. ⊎_elim (λ before. inl (subst (λ (q : List ℕ). IsSome (get s.hosts q)) (sym (same ∙ fits.named)) before)) (λ other. inr (subst (λ (q : List ℕ). IsSome d.deletion → superordinate_of p.zone q ≢ Some d.name) (sym (same ∙ fits.named)) (other n d at))) free)
      (λ before. inl before) (put-there s.hosts h.name h host there))
      (λ n d at host named there. put-keeps s.hosts h.name h host there)

  -- a host that no domain names
  pub drop-host : (name : List ℕ) → ((n : List ℕ) (d : Domain) → get s.domains n ≡ Some d → names_host name d.links ≢ true) → HasObjects p (changed p (DropHost name) s)
  drop-host name unnamed = hosts-kept (remove s.hosts name) (apart-drop host_roid s.hosts is.identities.host_roids name)
      (λ n h at. is.hosts n h (drop-cases s.hosts name n h at).1)
      (λ n d at host there. inl (drop-there s.hosts name host there))
      (λ n d at host named there. drop-keeps s.hosts name host (λ same. unnamed n d at (ap (λ (q : List ℕ). names_host q d.links) (sym same) ∙ named)) there)

  pub put-domain : (name : List ℕ) (d : Domain) → IsDomainOf p s name d → IsItsOwn domain_roid s.domains name d.roid → HasObjects p (changed p (PutDomain d) s)
  put-domain name d fits own = domains-kept (insert s.domains d.name d)
      (apart-put domain_roid s.domains is.identities.domain_roids d.name d (λ n x at same. own n x at same ∙ sym fits.is_at.named))
      (at-put (IsDomainOf p s) s.domains d.name d (subst (λ (n : List ℕ). IsDomainOf p s n d) (sym fits.is_at.named) fits) is.domains)
      (λ n h at domain above there. put-keeps s.domains d.name d domain there)

  -- a domain that no host lies below
  pub drop-domain : (name : List ℕ) → ((host : List ℕ) → IsSome (get s.hosts host) → superordinate_of p.zone host ≢ Some name) → HasObjects p (changed p (DropDomain name) s)
  drop-domain name alone = domains-kept (remove s.domains name) (apart-drop domain_roid s.domains is.identities.domain_roids name)
      (λ n d at. is.domains n d (drop-cases s.domains name n d at).1)
      (λ n h at domain above there. drop-keeps s.domains name domain (λ same. alone n (is-there (get s.hosts n) h at) (above ∙ ap (λ (q : List ℕ). Some q) same)) there)

-- ---- a host gets a new name

kept-listed : (old : List ℕ) (hosts : List (List ℕ)) (n : List ℕ) → has_name (filter (λ host. not (bytes_eq host old)) hosts) n ≡ true → (n ≢ old) × (has_name hosts n ≡ true)
kept-listed old hosts n e =
    let parts = and_parts (not (bytes_eq n old)) (has_name hosts n) (sym (has_name-filter (λ host. not (bytes_eq host old)) hosts n) ∙ e) in
    (λ same. let never : true ≡ false = sym ((bytes_decides n old).1 same) ∙ not-true (bytes_eq n old) parts.0 in cc, parts.1)

-- what a domain names after a host's renaming: its new name, or another name from before
renamed-listed : (old new : List ℕ) (hosts : List (List ℕ)) (n : List ℕ) → has_name (renamed old new hosts) n ≡ true → (n ≡ new) ⊎ ((n ≢ old) × (has_name hosts n ≡ true))
renamed-listed old new hosts n e = by (has_name hosts old) refl e
  where
    by : (b : Bool) → has_name hosts old ≡ b → has_name (cond b (add (precedes (slice_cmp nat_cmp)) new (filter (λ host. not (bytes_eq host old)) hosts)) hosts) n ≡ true → (n ≡ new) ⊎ ((n ≢ old) × (has_name hosts n ≡ true))
    by true is e = ⊎_elim (λ first. inl (sym ((bytes_decides new n).0 first))) (λ rest. inr (kept-listed old hosts n rest)) (or_cases (bytes_eq new n) (has_name (filter (λ host. not (bytes_eq host old)) hosts) n) (sym (any-add (precedes (slice_cmp nat_cmp)) (λ other. bytes_eq other n) new (filter (λ host. not (bytes_eq host old)) hosts)) ∙ e))
    by false is e = inr (λ same. let never : true ≡ false = sym e ∙ ap (has_name hosts) same ∙ is in cc, e)

module _ (p : PolicyRules) (s : Registry) (is : HasObjects p s) where
  -- A host goes from one name to another, and domains that named it name it still.
  renamed-apart : (old : List ℕ) (o h : Host) → get s.hosts old ≡ Some o → h.roid ≡ o.roid → IsHostOf p s h.name h → IsUndeleted p s h.name
      → HasObjects p (host_renamed old h s)
  renamed-apart old o h at-old same fits free =
      let left : Hosts = remove s.hosts old in
      let hosts : Hosts = insert left h.name h in
      let domains : Domains = map_values (λ name. with_host_renamed old h.name) s.domains in
      let t : Registry = with_objects s.contacts hosts domains s in
      let grows : Grows p p s t = same-time p s s.contacts hosts domains in
      let there : (n : List ℕ) → IsSome (get s.domains n) → IsSome (get domains n) = λ n. remade-keeps (with_host_renamed old h.name) s.domains n in
      let apart : AreApart host_roid left = apart-drop host_roid s.hosts is.identities.host_roids old in
      let own : IsItsOwn host_roid left h.name h.roid = λ n x at alike. let before = drop-cases s.hosts old n x at in absurd (before.0 (is.identities.host_roids n old x o before.1 at-old (alike ∙ same))) in
      let one : (n : List ℕ) (d : Domain) → get s.domains n ≡ Some d → IsDomainOf p t n (with_host_renamed old h.name d) = λ n d at.
      let k = is.domains n d at in
      domain-grown p p s t grows n d (links_with_host_renamed old h.name d.links)
      (λ host now. ⊎_elim (λ new. inr (subst (λ (q : List ℕ). IsSome d.deletion → superordinate_of p.zone q ≢ Some d.name) (sym new) (free n d at))) (λ before. inl (drop-there s.hosts old host before)) (put-there left h.name h host now))
      k.is_at.contacts
      (λ host named. ⊎_elim
      (λ new. subst (λ (q : List ℕ). IsSome (get hosts q)) (sym new) (is-there (get hosts h.name) h (put-is left h.name h)))
      (λ other. put-keeps left h.name h host (drop-keeps s.hosts old host other.0 (k.is_at.hosts host other.1)))
      (renamed-listed old h.name d.links.hosts host named))
      k in
      record {
        identities = search (apart-put host_roid left apart h.name h own, apart-remade domain_roid s.domains is.identities.domain_roids (with_host_renamed old h.name) (λ d. refl));
        contacts = λ n c at. contact-grown p p s t grows n c (is.contacts n c at);
        hosts = at-put (IsHostOf p t) left h.name h (host-grown p p s t grows there h.name h fits) (λ n x at. host-grown p p s t grows there n x (is.hosts n x (drop-cases s.hosts old n x at).1));
        domains = λ n d at. let before = remade-cases (with_host_renamed old h.name) s.domains n d at in subst (IsDomainOf p t n) before.2 (one n before.0 before.1);
      }

  pub rename-host : (old : List ℕ) (o h : Host) → get s.hosts old ≡ Some o → h.roid ≡ o.roid → IsHostOf p s h.name h → IsUndeleted p s h.name
      → HasObjects p (changed p (RenameHost old h) s)
  rename-host old o h at-old same fits free = cond_both (may_rename s.hosts old h.name) (host_renamed old h s) s (HasObjects p) (λ may. renamed-apart old o h at-old same fits free) (λ else. is)
