-- What is so of an object stays so while the clock and the accounts' serials grow.
use Rattle.std.proofs.Common.{[], arith, IsSome, List, None, Option, refl, Some, subst, true, ℕ, ⊎_elim, ◌∙◌, ◌∷◌, ◌≡◌, ◌≢◌, ◌≤◌, ◌⊎◌}
use Rattle.decisions.proofs.Words.{account_of, Contact, Deletion, Domain, get, HasBeen, HasRoid, Host, IsContactOf, IsDeletion, IsDomainOf}
use Rattle.decisions.proofs.Words.{IsHostOf, IsLastTransfer, IsRegistrar, Links, names_contact, names_host, ObjectKind, PolicyRules, Registry}
use Rattle.decisions.proofs.Words.{Change, changed, changed_all, cond_both, host_renamed, may_rename, MoveClock, RenameHost, Roid, superordinate_of, Transfer}
use Rattle.decisions.proofs.Words.{DropContact, DropDomain, DropHost, LapseContact, LapseDomain, PutContact, PutDomain, PutHost, remove, with_host_renamed}
use Rattle.decisions.proofs.NamedLemmas.{at-put, drop-cases, remade-cases}
use Rattle.model.specs.WellFormed.{BelongsTo}

-- ---- what each change keeps that fits, a list of changes keeps of which each fits when its turn comes

module _ (p : PolicyRules) (Fits : Change → Registry → Type 0) where
  abbrev pub AllFit : List Change → Registry → Type 0
  AllFit [] s = Unit {0}
  AllFit (change ∷ changes) s = Fits change s × AllFit changes (changed p change s)

  pub all-kept : (Kept : Registry → Type 0) → ((change : Change) (s : Registry) → Fits change s → Kept s → Kept (changed p change s))
      → (changes : List Change) (s : Registry) → AllFit changes s → Kept s → Kept (changed_all p changes s)
  all-kept Kept keeps [] s fit is = is
  all-kept Kept keeps (change ∷ changes) s fit is = all-kept Kept keeps changes (changed p change s) fit.1 (keeps change s fit.0 is)

  -- none moves the clock, where none fits that does
  pub clock-kept : ((u : ℕ) (s : Registry) → Fits (MoveClock u) s → ⊥) → (changes : List Change) (s : Registry) → AllFit changes s → (changed_all p changes s).clock ≡ s.clock
  clock-kept never changes s fit = all-kept (λ t. t.clock ≡ s.clock) (λ change t fits same. stays change t fits ∙ same) changes s fit refl
    where
      stays : (change : Change) (t : Registry) → Fits change t → (changed p change t).clock ≡ t.clock
      stays (MoveClock u) t fits = absurd (never u t fits)
      stays (RenameHost old h) t fits = cond_both (may_rename t.hosts old h.name) (host_renamed old h t) t (λ (v : Registry). v.clock ≡ t.clock) (λ may. refl) (λ else. refl)
      stays _ t fits = refl

-- ---- what is so of each contact, host and domain, apart from any other

pub record AreAll (C : Contact → Type 0) (H : Host → Type 0) (D : Domain → Type 0) (s : Registry) : Type 0 where
  pub contacts : (name : List ℕ) (c : Contact) → get s.contacts name ≡ Some c → C c
  pub hosts : (name : List ℕ) (h : Host) → get s.hosts name ≡ Some h → H h
  pub domains : (name : List ℕ) (d : Domain) → get s.domains name ≡ Some d → D d

module _ (p : PolicyRules) (C : Contact → Type 0) (H : Host → Type 0) (D : Domain → Type 0) where
  -- it is so of what is put, and of a domain once a host that it names has a new name; and no time passes
  abbrev pub Puts : Change → Registry → Type 0
  Puts (MoveClock t) s = ⊥
  Puts (PutContact c) s = C c
  Puts (PutDomain d) s = D d
  Puts (PutHost h) s = H h
  Puts (RenameHost old h) s = H h × ((name : List ℕ) (d : Domain) → get s.domains name ≡ Some d → D d → D (with_host_renamed old h.name d))
  Puts (LapseContact name left) s = ⊥
  Puts (LapseDomain name left) s = ⊥
  Puts _ s = Unit {0}

  are-put : (change : Change) (s : Registry) → Puts change s → AreAll C H D s → AreAll C H D (changed p change s)
  are-put (PutContact c) s fits is = search (at-put (λ n. C) s.contacts c.name c fits is.contacts)
  are-put (DropContact gone) s fits is = record { contacts = λ n c at. is.contacts n c (drop-cases s.contacts gone n c at).1; hosts = is.hosts; domains = is.domains }
  are-put (PutDomain d) s fits is = search (at-put (λ n. D) s.domains d.name d fits is.domains)
  are-put (DropDomain gone) s fits is = record { contacts = is.contacts; hosts = is.hosts; domains = λ n d at. is.domains n d (drop-cases s.domains gone n d at).1 }
  are-put (PutHost h) s fits is = search (at-put (λ n. H) s.hosts h.name h fits is.hosts)
  are-put (DropHost gone) s fits is = record { contacts = is.contacts; hosts = λ n h at. is.hosts n h (drop-cases s.hosts gone n h at).1; domains = is.domains }
  are-put (RenameHost old h) s fits is = cond_both (may_rename s.hosts old h.name) (host_renamed old h s) s (AreAll C H D)
      (λ may. record {
        contacts = is.contacts;
        hosts = at-put (λ n. H) (remove s.hosts old) h.name h fits.0 (λ n g at. is.hosts n g (drop-cases s.hosts old n g at).1);
        domains = λ n d at.
            let was = remade-cases (with_host_renamed old h.name) s.domains n d at in
            subst D was.2 (fits.1 n was.0 was.1 (is.domains n was.0 was.1));
      })
      (λ else. is)
  are-put (LapseContact name left) s fits is = absurd fits
  are-put (LapseDomain name left) s fits is = absurd fits
  are-put _ s fits is = record { contacts = is.contacts; hosts = is.hosts; domains = is.domains }

  pub all-put : (changes : List Change) (s : Registry) → AllFit p Puts changes s → AreAll C H D s → AreAll C H D (changed_all p changes s)
  all-put = all-kept p Puts (AreAll C H D) are-put

-- ---- a registry grows, and what is so of its objects stays so

-- A registry under a policy becomes another, under a policy of the same zone with at least its
-- registrars: the clock and each account's serial stand where they stood, or later.
pub record Grows (p q : PolicyRules) (s t : Registry) : Type 0 where
  pub zone : p.zone ≡ q.zone
  pub place : (r : ℕ) → IsRegistrar p r → IsRegistrar q r
  pub clock : s.clock ≤ t.clock
  pub serial : (r : ℕ) → (account_of r s).serial ≤ (account_of r t).serial

module _ (p q : PolicyRules) (s t : Registry) (grows : Grows p q s t) where
  pub roid-grown : (kind : ObjectKind) (roid : Roid) → HasRoid p s kind roid → HasRoid q t kind roid
  roid-grown kind roid h = record { kind_is = h.kind_is; creator = grows.place _ h.creator; serial = omega (arith, h.serial, grows.serial roid.creator) }

  pub been-grown : (moment : Option ℕ) → HasBeen s moment → HasBeen t moment
  been-grown None h = tt
  been-grown (Some moment) h = omega (arith, grows.clock)

  transfer-grown : (created : ℕ) (transferred : Option ℕ) (transfer : Option Transfer) → IsLastTransfer p s created transferred transfer → IsLastTransfer q t created transferred transfer
  transfer-grown created transferred None h = tt
  transfer-grown created transferred (Some transfer) h = search (arith, grows.place, grows.clock, h.recorded.acted)

  pub contact-grown : (name : List ℕ) (c : Contact) → IsContactOf p s name c → IsContactOf q t name c
  contact-grown name c h = search (arith, grows.place, grows.clock, roid-grown, been-grown, transfer-grown)

  belongs-grown : (above : Option (List ℕ)) (by : Option ℕ) → ((domain : List ℕ) → above ≡ Some domain → IsSome (get s.domains domain) → IsSome (get t.domains domain)) → BelongsTo p s above by → BelongsTo q t above by
  belongs-grown (Some domain) by there h = (there domain refl h.0, h.1)
  belongs-grown None None there h = h
  belongs-grown None (Some registrar) there h = grows.place registrar h

  -- a host whose superordinate domain is there still, if it has one
  pub host-grown-below : (name : List ℕ) (h : Host) → ((domain : List ℕ) → superordinate_of p.zone name ≡ Some domain → IsSome (get s.domains domain) → IsSome (get t.domains domain)) → IsHostOf p s name h → IsHostOf q t name h
  host-grown-below name h there is =
      let belongs : BelongsTo q t (superordinate_of q.zone name) h.external_sponsor = rw (← grows.zone) (belongs-grown (superordinate_of p.zone name) h.external_sponsor there is.belongs) in
      search (arith, grows.clock, roid-grown, been-grown)

  -- the domains that were there are
  pub host-grown : ((domain : List ℕ) → IsSome (get s.domains domain) → IsSome (get t.domains domain)) → (name : List ℕ) (h : Host) → IsHostOf p s name h → IsHostOf q t name h
  host-grown there name h is = host-grown-below name h (λ domain above. there domain) is

  -- a host that wasn't there doesn't lie below a deleted domain
  abbrev pub IsFree : Domain → Type 0
  IsFree d = (host : List ℕ) → IsSome (get t.hosts host) → IsSome (get s.hosts host) ⊎ (IsSome d.deletion → superordinate_of p.zone host ≢ Some d.name)

  deletion-grown : (d : Domain) (links : Links) → IsFree d → (deletion : Option Deletion) → (IsSome deletion → IsSome d.deletion) → IsDeletion p s d deletion → IsDeletion q t (record d { links = links }) deletion
  deletion-grown d links free None is h = tt
  deletion-grown d links free (Some deletion) is h =
      let hosts : (host : List ℕ) → IsSome (get t.hosts host) → superordinate_of q.zone host ≢ Some d.name = λ host there. rw (← grows.zone) (⊎_elim (λ before. h.hosts host before) (λ other. other (is refl)) (free host there)) in
      search (arith, grows.clock, been-grown)

  -- a domain, with links to what is there
  pub domain-grown : (name : List ℕ) (d : Domain) (links : Links) → IsFree d
      → ((contact : List ℕ) → names_contact contact links ≡ true → IsSome (get t.contacts contact))
      → ((host : List ℕ) → names_host host links ≡ true → IsSome (get t.hosts host))
      → IsDomainOf p s name d → IsDomainOf q t name (record d { links = links })
  domain-grown name d links free contacts hosts h =
      search (arith, grows.place, grows.clock, roid-grown, been-grown, transfer-grown, deletion-grown d links free d.deletion (λ is. is) h.is_at.deletion)
