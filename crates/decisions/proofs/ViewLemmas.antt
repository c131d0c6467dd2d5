-- The facts of a command lie in the view, and each change is seen by the view alone.
use Rattle.std.proofs.Common.{◌≡◌, ◌⊎◌, inr, ⊎_elim, ℕ, ◌≤◌, ◌+◌, ◌==◌, Bool, true, false, cond, List, [], ◌∷◌, map, filter, length, Option, Some, None, refl, sym, ap, subst, ◌∙◌, arith}
use Rattle.decisions.proofs.Words.{Account, account_of, Change, changed, changed_all, Command, Contact, contact_as, Domain, domain_sight, Host, host_renamed, may_rename}
use Rattle.decisions.proofs.Words.{account_changed, cond_both, ContactFace, domain_as, DomainFace, DropContact, DropDomain, DropHost, empty_account, entries}
use Rattle.decisions.proofs.Words.{eq_by_cmp, eq_by_cmp_equiv, Equal-is, facts, facts_by, FinMap, FullDomain, get, get-insert, given_back, Graces, graces}
use Rattle.decisions.proofs.Words.{graces_of, held, insert, is_below, is_party, is_some, keys, LapseContact, LapseDomain, Line, Links, list_any}
use Rattle.decisions.proofs.Words.{Lookups, lookups, map_values, MoveClock, names_contact, names_host, nat_cmp, nat_cmp-IsAntisymmetric, nat_cmp_total}
use Rattle.decisions.proofs.Words.{nat_list_cmp_total, OpenAccount, option_map, phase, PolicyRules, Post, presented, presented_contact, PutContact, PutDomain}
use Rattle.decisions.proofs.Words.{PutHost, refund_at, Registry, remove, RenameHost, same_map, Seen, slice_cmp, Standing, standing_of, subordinate}
use Rattle.decisions.proofs.Words.{superordinate_of_domain, unwrap_or, values, view, with_account, with_host_renamed, with_serial}
use Rattle.decisions.proofs.SightLemmas.{domain_again, face-seen, face_seen, forget, forget-domain, forget-contact, holds_seen, holds-seen, Regrace, regraced, regraced-seen, relinked_seen, seen-relinked, superordinate_of_face, superordinate-seen}
use Rattle.basis.proofs.MapLemmas.{names_apart, entries-map_values, get-map_values, map_values-insert, map_values-remove, map_values-twice, map-twice}
use Rattle.objects.specs.Graces.{no_graces}
use Rattle.{model.proofs.LineLemmas.{count-cons, one_if}, policy.proofs.TextLemmas.list_any_of_map, std.proofs.lemmas.Simd.map-map}
use Rattle.decisions.specs.Changes.{itself}
use Rattle.decisions.proofs.{GrowthLemmas.AllFit, HandedOver.transfer_alone}
use Rattle.model.specs.View.{View, Secrets, view_for, view_with, secrets_of}

-- ---- the facts lie in the view

some-map : {A B : Type 0} (f : A → B) (o : Option A) → is_some (option_map f o) ≡ is_some o
some-map f o = grind arith

-- what is found in a view
finds_in : PolicyRules → ℕ → View → Lookups
finds_in p r v = record {
  account = v.account;
  contact = λ name. get v.contacts name;
  domain = λ name. get v.domains name;
  host = λ name. get v.hosts name;
  superordinate = λ name. option_map (λ (seen : Seen FullDomain DomainFace). superordinate_of_face (face_seen seen)) (get v.domains name);
  has_contact = λ name. is_some (get v.contacts name);
  has_host = λ name. is_some (get v.hosts name);
  contact_is_linked = λ name. list_any (λ seen. names_contact name (face_seen seen).links) (values v.domains);
  host_is_linked = λ name. list_any (λ seen. names_host name (face_seen seen).links) (values v.domains);
  hosts_below = λ name. filter (is_below name) (keys v.hosts);
  domains_held = length (filter (holds_seen r) (values v.domains));
  given_back = λ d. given_back p (refund_at v.clock d) v.account.lines;
}

module _ (p : PolicyRules) (r : ℕ) (c : Command) (s : Registry) where
  abbrev sight : List ℕ → Domain → Seen FullDomain DomainFace
  sight name = domain_sight p r s (presented c name)

  contact-found : (name : List ℕ) → get (view_for p r c s).contacts name ≡ option_map (contact_as r (presented_contact c name)) (get s.contacts name)
  contact-found name = get-map_values (slice_cmp nat_cmp) nat_list_cmp_total names_apart (λ n. contact_as r (presented_contact c n)) s.contacts name

  contact-there : (name : List ℕ) → is_some (get (view_for p r c s).contacts name) ≡ is_some (get s.contacts name)
  contact-there name = ap (λ (o : Option (Seen Contact ContactFace)). is_some o) (contact-found name) ∙ some-map (contact_as r (presented_contact c name)) (get s.contacts name)

  domain-found : (name : List ℕ) → get (view_for p r c s).domains name ≡ option_map (sight name) (get s.domains name)
  domain-found name = get-map_values (slice_cmp nat_cmp) nat_list_cmp_total names_apart sight s.domains name

  superordinate-found : (name : List ℕ) → option_map (λ (seen : Seen FullDomain DomainFace). superordinate_of_face (face_seen seen)) (get (view_for p r c s).domains name) ≡ option_map superordinate_of_domain (get s.domains name)
  superordinate-found name = ap (option_map _) (domain-found name) ∙ map-twice (sight name) (λ (seen : Seen FullDomain DomainFace). superordinate_of_face (face_seen seen)) superordinate_of_domain (λ d. superordinate-seen r (presented c name) (standing_of p s d) d) (get s.domains name)

  -- the values that are seen
  values-found : values (view_for p r c s).domains ≡ map (λ (e : List ℕ × Domain). sight e.0 e.1) (entries s.domains)
  values-found =
      ap (λ (es : List (List ℕ × Seen FullDomain DomainFace)). map (λ (e : List ℕ × Seen FullDomain DomainFace). e.1) es) (entries-map_values (slice_cmp nat_cmp) sight nat_list_cmp_total names_apart s.domains)
      ∙ map-map (λ (e : List ℕ × Seen FullDomain DomainFace). e.1) (λ (e : List ℕ × Domain). (e.0, sight e.0 e.1)) (entries s.domains)

  -- a test of what all see of a domain
  any-found : (test : Links → Bool) → list_any (λ seen. test (face_seen seen).links) (values (view_for p r c s).domains) ≡ list_any (λ d. test d.links) (values s.domains)
  any-found test = ap (list_any (λ seen. test (face_seen seen).links)) values-found
      ∙ list_any_of_map (λ seen. test (face_seen seen).links) (λ (e : List ℕ × Domain). sight e.0 e.1) (entries s.domains)
      ∙ (λ i. list_any (λ (e : List ℕ × Domain). test (face-seen r (presented c e.0) (standing_of p s e.1) e.1 i).links) (entries s.domains))
      ∙ sym (list_any_of_map (λ d. test d.links) (λ (e : List ℕ × Domain). e.1) (entries s.domains))

  held-found : length (filter (holds_seen r) (values (view_for p r c s).domains)) ≡ held r s
  held-found = ap (λ (seen : List (Seen FullDomain DomainFace)). length (filter (holds_seen r) seen)) values-found ∙ by (entries s.domains)
    where
      by : (es : List (List ℕ × Domain)) → length (filter (holds_seen r) (map (λ (e : List ℕ × Domain). sight e.0 e.1) es)) ≡ length (filter (λ d. is_party r d.sponsor d.transfer) (map (λ (e : List ℕ × Domain). e.1) es))
      by [] = refl
      by (e ∷ es) = count-cons (holds_seen r) (sight e.0 e.1) (map (λ (e : List ℕ × Domain). sight e.0 e.1) es)
          ∙ (λ i. one_if (holds-seen r (presented c e.0) (standing_of p s e.1) e.1 i) (by es i))
          ∙ sym (count-cons (λ (d : Domain). is_party r d.sponsor d.transfer) e.1 (map (λ (e : List ℕ × Domain). e.1) es))

  lookups-view : lookups p r c s ≡ finds_in p r (view_for p r c s)
  unfolding finds_in
  lookups-view = λ i. record {
    account = account_of r s;
    contact = λ name. sym (contact-found name) i;
    domain = λ name. sym (domain-found name) i;
    host = λ name. get s.hosts name;
    superordinate = λ name. sym (superordinate-found name) i;
    has_contact = λ name. sym (contact-there name) i;
    has_host = λ name. is_some (get s.hosts name);
    contact_is_linked = λ name. sym (any-found (names_contact name)) i;
    host_is_linked = λ name. sym (any-found (names_host name)) i;
    hosts_below = subordinate s;
    domains_held = sym held-found i;
    given_back = λ d. given_back p (refund_at s.clock d) (account_of r s).lines;
  }

pub same_facts : (p : PolicyRules) (r : ℕ) (c : Command) (s t : Registry) → view_for p r c s ≡ view_for p r c t → facts p r c s ≡ facts p r c t
same_facts p r c s t alike = ap (λ found. facts_by found c) (lookups-view p r c s ∙ ap (finds_in p r) alike ∙ sym (lookups-view p r c t))

-- ---- what is seen without the secrets of a command

forget_view : ℕ → View → View
forget_view r v = record v { contacts = map_values (λ name. forget (contact_as r None)) v.contacts; domains = map_values (λ name. forget (domain_again r)) v.domains }

forget-view_with : (p : PolicyRules) (secrets : Secrets) (r : ℕ) (s : Registry) → forget_view r (view_with p secrets r s) ≡ view p r s
unfolding forget_view
forget-view_with p secrets r s = λ i. record (view p r s) {
  contacts = map_values-twice (slice_cmp nat_cmp) nat_list_cmp_total names_apart (λ name. contact_as r (secrets.contacts name)) (λ name. forget (contact_as r None)) (λ name. contact_as r None)
      (λ name c. forget-contact r (secrets.contacts name) c) s.contacts i;
  domains = map_values-twice (slice_cmp nat_cmp) nat_list_cmp_total names_apart (λ name. domain_sight p r s (secrets.domains name)) (λ name. forget (domain_again r)) (λ name. domain_sight p r s None)
      (λ name d. forget-domain r (secrets.domains name) (standing_of p s d) d) s.domains i;
}

pub same_view : (p : PolicyRules) (r : ℕ) (c : Command) (s t : Registry) → view_for p r c s ≡ view_for p r c t → view p r s ≡ view p r t
same_view p r c s t alike = sym (forget-view_with p (secrets_of c) r s) ∙ ap (forget_view r) alike ∙ forget-view_with p (secrets_of c) r t

-- ---- each change, as it is seen

abbrev pub own : ℕ → ℕ → (Account → Account) → Account → Account
own r other f a = cond (eq_by_cmp nat_cmp r other) (f a) a

-- Of a domain that another sponsors, the graces that were seen, where its sponsor stays. Where it is
-- another's from now on, it was handed over, and its transfer's grace runs alone.
abbrev pub graces_kept : ℕ → Option (Seen FullDomain DomainFace) → Graces
graces_kept sponsor None = no_graces
graces_kept sponsor (Some seen) = cond (eq_by_cmp nat_cmp (face_seen seen).sponsor sponsor) (face_seen seen).standing.graces transfer_alone

-- the graces of a domain that is put: of the registrar's own, by its lines
abbrev pub graces_put : PolicyRules → ℕ → Domain → View → Graces
graces_put p r d v = cond (eq_by_cmp nat_cmp d.sponsor r) (graces p v.clock d.roid d.transferred v.account.lines) (graces_kept d.sponsor (get v.domains d.name))

abbrev standing_put : PolicyRules → ℕ → Domain → View → Standing
standing_put p r d v = record { graces = graces_put p r d v; phase = phase p v.clock d }

-- the registrar's own domains have the graces that these lines give
abbrev own_graces : PolicyRules → ℕ → ℕ → List Line → Regrace
own_graces p r clock lines sponsor roid transferred g = cond (eq_by_cmp nat_cmp sponsor r) (graces p clock roid transferred lines) g

-- another account
abbrev with_seen_account : PolicyRules → ℕ → Account → View → View
with_seen_account p r a v = record v { account = a; domains = map_values (λ name. regraced (own_graces p r v.clock a.lines)) v.domains }

-- a host under a new name
abbrev seen_renamed : List ℕ → Host → View → View
seen_renamed old h v = record v { hosts = insert (remove v.hosts old) h.name h; domains = map_values (λ name. relinked_seen old h.name) v.domains }

seen_change : PolicyRules → ℕ → Change → View → View
seen_change p r (OpenAccount other) v = with_seen_account p r (own r other itself v.account) v
seen_change p r (PutContact c) v = record v { contacts = insert v.contacts c.name (contact_as r None c) }
seen_change p r (DropContact name) v = record v { contacts = remove v.contacts name }
seen_change p r (PutDomain d) v = record v { domains = insert v.domains d.name (domain_as r None (standing_put p r d v) d) }
seen_change p r (DropDomain name) v = record v { domains = remove v.domains name }
seen_change p r (PutHost h) v = record v { hosts = insert v.hosts h.name h }
seen_change p r (DropHost name) v = record v { hosts = remove v.hosts name }
seen_change p r (RenameHost old h) v = cond (may_rename v.hosts old h.name) (seen_renamed old h v) v
seen_change p r (Post other what) v = with_seen_account p r (own r other (account_changed p what) v.account) v
seen_change p r _ v = v

pub same_number : (a b : ℕ) → eq_by_cmp nat_cmp a b ≡ true → a ≡ b
same_number a b e = nat_cmp-IsAntisymmetric a b ((Equal-is (nat_cmp a b)).0 e)

pub account_of-with_account : (r other : ℕ) (f : Account → Account) (s : Registry) → account_of r (with_account other f s) ≡ own r other f (account_of r s)
account_of-with_account r other f s =
    ap (λ o. unwrap_or o empty_account) (get-insert nat_cmp_total s.accounts other (f (account_of other s)) r)
    ∙ by (eq_by_cmp nat_cmp r other) refl
  where
    by : (b : Bool) → eq_by_cmp nat_cmp r other ≡ b
        → unwrap_or (cond b (Some (f (account_of other s))) (get s.accounts r)) empty_account
        ≡ cond b (f (account_of r s)) (account_of r s)
    by true e = ap (λ q. f (account_of q s)) (sym (same_number r other e))
    by false e = refl

-- what holds of each account, and of one once it is changed, holds of each afterwards
pub account-keep : (P : Account → Type 0) (s : Registry) (r : ℕ) (f : Account → Account) (q : ℕ) → (r ≡ q → P (account_of q s) → P (f (account_of q s))) → P (account_of q s) → P (account_of q (with_account r f s))
account-keep P s r f q keeps h = subst P (sym (account_of-with_account q r f s))
    (cond_both (eq_by_cmp nat_cmp q r) (f (account_of q s)) (account_of q s) P
    (λ own. keeps (sym (same_number q r own)) h) (λ other. h))

-- the account itself
pub own-account : (r : ℕ) (f : Account → Account) (s : Registry) → account_of r (with_account r f s) ≡ f (account_of r s)
own-account r f s = account_of-with_account r r f s ∙ ap (λ (b : Bool). cond b (f (account_of r s)) (account_of r s)) ((eq_by_cmp_equiv nat_cmp_total).refl r)

-- taking a serial lowers none
pub serial-rises : (a : Account) → a.serial ≤ (with_serial a).serial
serial-rises a = cond_both (a.serial == 0xFFFF_FFFF_FFFF_FFFF) a.serial (a.serial + 1) (λ n. a.serial ≤ n)
    (λ e. omega arith) (λ e. omega arith)

-- ---- an account whose lines change: the registrar's own, or one whose lines stay

-- the graces that an account gives its registrar's domains stay
abbrev pub KeepsGraces : PolicyRules → ℕ → (Account → Account) → Registry → Type 0
KeepsGraces p q f s = (name : List ℕ) (d : Domain) → get s.domains name ≡ Some d → d.sponsor ≡ q
    → graces p s.clock d.roid d.transferred (f (account_of q s)).lines ≡ graces p s.clock d.roid d.transferred (account_of q s).lines

-- values that look alike at each name of a map
sights-alike : {X Y : Type 0} (f g : List ℕ → X → Y) (m : FinMap (slice_cmp nat_cmp) X) → ((name : List ℕ) (x : X) → get m name ≡ Some x → f name x ≡ g name x) → map_values f m ≡ map_values g m
sights-alike {X} {Y} f g m alike = same_map nat_list_cmp_total names_apart _ _ (λ q.
    get-map_values (slice_cmp nat_cmp) nat_list_cmp_total names_apart f m q ∙ by q (get m q) refl ∙ sym (get-map_values (slice_cmp nat_cmp) nat_list_cmp_total names_apart g m q))
  where
    by : (q : List ℕ) (found : Option X) → get m q ≡ found → option_map (f q) found ≡ option_map (g q) found
    by q None at = refl
    by q (Some x) at = ap (λ (y : Y). Some y) (alike q x at)

module _ (p : PolicyRules) (r q : ℕ) (f : Account → Account) (s : Registry) (own_or_kept : (q ≡ r) ⊎ KeepsGraces p q f s) where
  abbrev given : Registry
  given = with_account q f s

  abbrev own_after : Account
  own_after = own r q f (account_of r s)

  -- the graces of another's domains stay
  graces-of-another : (name : List ℕ) (d : Domain) → get s.domains name ≡ Some d → eq_by_cmp nat_cmp d.sponsor r ≡ false → graces_of p given d ≡ graces_of p s d
  graces-of-another name d at other = ap (λ (a : Account). graces p s.clock d.roid d.transferred a.lines) (account_of-with_account d.sponsor q f s) ∙ by (eq_by_cmp nat_cmp d.sponsor q) refl
    where
      by : (b : Bool) → eq_by_cmp nat_cmp d.sponsor q ≡ b → graces p s.clock d.roid d.transferred (cond b (f (account_of d.sponsor s)) (account_of d.sponsor s)).lines ≡ graces_of p s d
      by true e =
          let same : d.sponsor ≡ q = same_number d.sponsor q e in
          ⊎_elim
          (λ own. absurd (let never : true ≡ false = sym e ∙ ap (λ (n : ℕ). eq_by_cmp nat_cmp d.sponsor n) own ∙ other in cc))
          (λ kept. ap (λ (n : ℕ). graces p s.clock d.roid d.transferred (f (account_of n s)).lines) same ∙ kept name d at same ∙ ap (λ (n : ℕ). graces p s.clock d.roid d.transferred (account_of n s).lines) (sym same)) own_or_kept
      by false e = refl

  graces-given : (name : List ℕ) (d : Domain) → get s.domains name ≡ Some d → graces_of p given d ≡ own_graces p r s.clock own_after.lines d.sponsor d.roid d.transferred (graces_of p s d)
  graces-given name d at = cond_both (eq_by_cmp nat_cmp d.sponsor r)
      (graces p s.clock d.roid d.transferred own_after.lines) (graces_of p s d) (λ g. graces_of p given d ≡ g)
      (λ e. ap (λ (k : ℕ). graces p s.clock d.roid d.transferred (account_of k given).lines) (same_number d.sponsor r e) ∙ ap (λ (a : Account). graces p s.clock d.roid d.transferred a.lines) (account_of-with_account r q f s))
      (graces-of-another name d at)

  sight-given : (name : List ℕ) (d : Domain) → get s.domains name ≡ Some d → domain_sight p r given None d ≡ regraced (own_graces p r s.clock own_after.lines) (domain_sight p r s None d)
  sight-given name d at =
      ap (λ (g : Graces). domain_as r None (record { graces = g; phase = phase p s.clock d }) d) (graces-given name d at)
      ∙ sym (regraced-seen (own_graces p r s.clock own_after.lines) r (standing_of p s d) d None)

  sights-given : map_values (λ (name : List ℕ). domain_sight p r given None) s.domains ≡ map_values (λ (name : List ℕ). regraced (own_graces p r s.clock own_after.lines)) (map_values (λ (name : List ℕ). domain_sight p r s None) s.domains)
  sights-given =
      sights-alike (λ name. domain_sight p r given None) (λ name d. regraced (own_graces p r s.clock own_after.lines) (domain_sight p r s None d)) s.domains sight-given
      ∙ sym (map_values-twice (slice_cmp nat_cmp) nat_list_cmp_total names_apart (λ name. domain_sight p r s None) (λ name. regraced (own_graces p r s.clock own_after.lines)) (λ name d. regraced (own_graces p r s.clock own_after.lines) (domain_sight p r s None d))
      (λ name d. refl) s.domains)

  view-given : view p r given ≡ with_seen_account p r (own r q f (view p r s).account) (view p r s)
  view-given = λ i. record (view p r s) { account = account_of-with_account r q f s i; domains = sights-given i }

relinked-view : (p : PolicyRules) (r : ℕ) (s : Registry) (old new : List ℕ) (m : FinMap (slice_cmp nat_cmp) Domain)
    → map_values (λ (name : List ℕ). domain_sight p r s None) (map_values (λ (name : List ℕ). with_host_renamed old new) m) ≡ map_values (λ (name : List ℕ). relinked_seen old new) (map_values (λ (name : List ℕ). domain_sight p r s None) m)
relinked-view p r s old new m =
    map_values-twice (slice_cmp nat_cmp) nat_list_cmp_total names_apart (λ name. with_host_renamed old new) (λ name. domain_sight p r s None) (λ name d. domain_sight p r s None (with_host_renamed old new d)) (λ name d. refl) m
    ∙ sym (map_values-twice (slice_cmp nat_cmp) nat_list_cmp_total names_apart (λ name. domain_sight p r s None) (λ name. relinked_seen old new) (λ name d. domain_sight p r s None (with_host_renamed old new d))
    (λ name d. sym (seen-relinked r None old new (standing_of p s d) d)) m)

view-renamed : (p : PolicyRules) (r : ℕ) (s : Registry) (old : List ℕ) (h : Host) (b : Bool) → view p r (cond b (host_renamed old h s) s) ≡ cond b (seen_renamed old h (view p r s)) (view p r s)
view-renamed p r s old h true =
    ap (λ (m : FinMap (slice_cmp nat_cmp) (Seen FullDomain DomainFace)). record (view p r s) { hosts = insert (remove s.hosts old) h.name h; domains = m }) (relinked-view p r s old h.name s.domains)
view-renamed p r s old h false = refl

-- ---- each change, by what is seen

-- What is asked of a change in a registry: a domain that is put has the graces that can be told from
-- what is seen, the graces stay that an account gives that isn't seen, and no time passes, since graces and
-- phases end by dates that aren't seen.
abbrev pub Meets : PolicyRules → ℕ → Change → Registry → Type 0
Meets p r (MoveClock t) s = ⊥
Meets p r (PutDomain d) s = graces_of p s d ≡ graces_put p r d (view p r s)
Meets p r (LapseContact name left) s = ⊥
Meets p r (LapseDomain name left) s = ⊥
Meets p r (Post other what) s = (other ≡ r) ⊎ KeepsGraces p other (account_changed p what) s
Meets p r _ s = Unit {0}

-- to make a change and to look is to look and to see the change
view-changed : (p : PolicyRules) (r : ℕ) (change : Change) (s : Registry) → Meets p r change s → view p r (changed p change s) ≡ seen_change p r change (view p r s)
unfolding seen_change
view-changed p r (MoveClock t) s meets = absurd meets
view-changed p r (OpenAccount other) s meets = view-given p r other itself s (inr (λ name d at sponsored. refl))
view-changed p r (PutContact c) s meets = ap (λ m. record (view p r s) { contacts = m }) (map_values-insert (slice_cmp nat_cmp) nat_list_cmp_total names_apart (λ name. contact_as r None) s.contacts c.name c)
view-changed p r (DropContact name) s meets = ap (λ m. record (view p r s) { contacts = m }) (map_values-remove (slice_cmp nat_cmp) nat_list_cmp_total names_apart (λ name. contact_as r None) s.contacts name)
view-changed p r (DropDomain name) s meets = ap (λ (m : FinMap (slice_cmp nat_cmp) (Seen FullDomain DomainFace)). record (view p r s) { domains = m }) (map_values-remove (slice_cmp nat_cmp) nat_list_cmp_total names_apart (λ name. domain_sight p r s None) s.domains name)
view-changed p r (RenameHost old h) s meets = view-renamed p r s old h (may_rename s.hosts old h.name)
view-changed p r (PutDomain d) s meets =
    ap (λ (m : FinMap (slice_cmp nat_cmp) (Seen FullDomain DomainFace)). record (view p r s) { domains = m })
    (map_values-insert (slice_cmp nat_cmp) nat_list_cmp_total names_apart (λ name. domain_sight p r s None) s.domains d.name d
    ∙ ap (λ (g : Graces). insert (view p r s).domains d.name (domain_as r None (record { graces = g; phase = phase p s.clock d }) d)) meets)
view-changed p r (LapseContact name left) s meets = absurd meets
view-changed p r (LapseDomain name left) s meets = absurd meets
view-changed p r (Post other what) s meets = view-given p r other (account_changed p what) s meets
view-changed p r _ s meets = refl

-- each of the changes meets it when its turn comes
abbrev pub AllMeet : PolicyRules → ℕ → List Change → Registry → Type 0
AllMeet p r changes s = AllFit p (Meets p r) changes s

-- two registries that look alike look alike after the same changes
pub same_changed_all : (p : PolicyRules) (r : ℕ) (changes : List Change) (s t : Registry) → AllMeet p r changes s → AllMeet p r changes t
    → view p r s ≡ view p r t → view p r (changed_all p changes s) ≡ view p r (changed_all p changes t)
same_changed_all p r [] s t here there alike = alike
same_changed_all p r (change ∷ changes) s t here there alike = same_changed_all p r changes (changed p change s) (changed p change t) here.1 there.1
    (view-changed p r change s here.0 ∙ ap (seen_change p r change) alike ∙ sym (view-changed p r change t there.0))
