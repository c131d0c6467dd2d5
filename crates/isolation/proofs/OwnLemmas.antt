-- A registrar that presents no right secret of what is touched sees registries alike that are one but
-- for that, and is told the same.
use Rattle.std.proofs.Common.{◌≡◌, ℕ, Bool, true, false, cond, not, ◌==◌, List, [], Option, Some, None, option_map, refl, sym, ap, ◌∙◌}
use Rattle.lifecycle.specs.Graces.{graces}
use Rattle.objects.specs.declared.grace.{Graces.Graces, Standing.Standing}
use Rattle.decisions.proofs.ViewLemmas.{same_facts}
use Rattle.isolation.specs.Public.{public_part}
use Rattle.isolation.proofs.{AccountLemmas.graces-charges, RedactionLemmas.{account-left, same-clock, same-hosts, same-own}}
use Rattle.isolation.proofs.Words.{slice_cmp, nat_list_cmp_total, FinMap, get, same_map, nat_cmp, and_parts, false_from_ne_true, not-true, true≢false}
use Rattle.isolation.proofs.Words.{Account, map_values, names_apart, get-map_values, facts, Registry, account_of, standing_of, domain_sight, view_for}
use Rattle.isolation.proofs.Words.{Contact, ContactFace, Domain, DomainFace, FullDomain, Seen, contact_face_of, face_of, authorizes, contact_as, domain_as}
use Rattle.isolation.proofs.Words.{is_party, PolicyRules, Command, presented, presented_contact, decided, answer, decision, reply_of, PresentsNone, Objects}
use Rattle.isolation.proofs.Words.{AreOne, is_redacted, no_postal, redacted, redacted_contact, redacted_domain, without_deposits}

-- ---- graces hang on no deposit

module _ (p : PolicyRules) (r : ℕ) (touched : Objects) (s : Registry) where
  graces-by : (t : ℕ) (d : Domain) (a : Account) (b : Bool) → graces p t d.roid d.transferred (cond b a (without_deposits a)).lines ≡ graces p t d.roid d.transferred a.lines
  graces-by t d a true = refl
  graces-by t d a false = graces-charges p t d.roid d.transferred a.lines

  pub standing-left : (d : Domain) → standing_of p (redacted r touched s) d ≡ standing_of p s d
  standing-left d = ap (λ (g : Graces). record (standing_of p s d) { graces = g })
      (ap (λ (a : Account). graces p s.clock d.roid d.transferred a.lines) (account-left r touched s d.sponsor)
      ∙ graces-by s.clock d (account_of d.sponsor s) (d.sponsor == r))

-- ---- the sight of one object

-- what is presented for what is redacted isn't looked at
abbrev looked_at : Bool → Option (List ℕ) → Option (List ℕ)
looked_at out presented = cond out None presented

module _ (r : ℕ) (touched : Objects) where
  contact-seen : (c : Contact) (secret : Option (List ℕ)) → (authorizes secret c.secret ≡ true → touched c.roid ≡ false)
      → contact_as r secret c ≡ contact_as r (looked_at (is_redacted r touched c.roid c.sponsor c.transfer) secret) (redacted_contact r touched c)
  contact-seen c secret none = by (is_redacted r touched c.roid c.sponsor c.transfer) refl
    where
      by : (out : Bool) → is_redacted r touched c.roid c.sponsor c.transfer ≡ out
          → contact_as r secret c ≡ contact_as r (looked_at out secret) (record c { secret = cond out [] c.secret; postal = cond out no_postal c.postal; voice = cond out None c.voice; mail = cond out [] c.mail })
      by true e =
          let here = and_parts (touched c.roid) (not (is_party r c.sponsor c.transfer)) e in
          rw (not-true (is_party r c.sponsor c.transfer) here.1, false_from_ne_true (authorizes secret c.secret) (λ right. true≢false (sym here.0 ∙ none right))) refl
      by false e = refl

  domain-seen : (d : Domain) (standing : Standing) (secret : Option (List ℕ)) → (authorizes secret d.secret ≡ true → touched d.roid ≡ false)
      → domain_as r secret standing d ≡ domain_as r (looked_at (is_redacted r touched d.roid d.sponsor d.transfer) secret) standing (redacted_domain r touched d)
  domain-seen d standing secret none = by (is_redacted r touched d.roid d.sponsor d.transfer) refl
    where
      by : (out : Bool) → is_redacted r touched d.roid d.sponsor d.transfer ≡ out
          → domain_as r secret standing d ≡ domain_as r (looked_at out secret) standing (record d { secret = cond out [] d.secret })
      by true e =
          let here = and_parts (touched d.roid) (not (is_party r d.sponsor d.transfer)) e in
          rw (not-true (is_party r d.sponsor d.transfer) here.1, false_from_ne_true (authorizes secret d.secret) (λ right. true≢false (sym here.0 ∙ none right))) refl
      by false e = refl

-- ---- the view

-- values that look alike at each name of a map, and once more what is left of them
seen-left : {X Y : Type 0} (see : List ℕ → X → Y) (out : X → X) (see_left : List ℕ → X → Y) (m : FinMap (slice_cmp nat_cmp) X)
    → ((name : List ℕ) (x : X) → get m name ≡ Some x → see name x ≡ see_left name (out x)) → map_values see m ≡ map_values see_left (map_values (λ (name : List ℕ). out) m)
seen-left {X} {Y} see out see_left m alike = same_map nat_list_cmp_total names_apart _ _ (λ q.
    get-map_values (slice_cmp nat_cmp) nat_list_cmp_total names_apart see m q
    ∙ by q (get m q) refl
    ∙ ap (option_map (see_left q)) (sym (get-map_values (slice_cmp nat_cmp) nat_list_cmp_total names_apart (λ (name : List ℕ). out) m q))
    ∙ sym (get-map_values (slice_cmp nat_cmp) nat_list_cmp_total names_apart see_left (map_values (λ (name : List ℕ). out) m) q))
  where
    by : (q : List ℕ) (found : Option X) → get m q ≡ found → option_map (see q) found ≡ option_map (see_left q) (option_map out found)
    by q None at = refl
    by q (Some x) at = ap (λ (y : Y). Some y) (alike q x at)

module _ (p : PolicyRules) (r : ℕ) (touched : Objects) (c : Command) where
  contact_left_seen : List ℕ → Contact → Seen Contact ContactFace
  contact_left_seen name o = contact_as r (looked_at (is_redacted r touched o.roid o.sponsor o.transfer) (presented_contact c name)) o

  domain_left_seen : Registry → List ℕ → Domain → Seen FullDomain DomainFace
  domain_left_seen x name o = domain_as r (looked_at (is_redacted r touched o.roid o.sponsor o.transfer) (presented c name)) (standing_of p x o) o

  contacts-seen : (s : Registry) → PresentsNone touched c s → (view_for p r c s).contacts ≡ map_values contact_left_seen (redacted r touched s).contacts
  unfolding contact_left_seen
  contacts-seen s none = seen-left (λ name. contact_as r (presented_contact c name)) (redacted_contact r touched) contact_left_seen s.contacts
      (λ name o at. contact-seen r touched o (presented_contact c name) (none.contacts name o at))

  domains-seen : (s : Registry) → PresentsNone touched c s → (view_for p r c s).domains ≡ map_values (domain_left_seen (redacted r touched s)) (redacted r touched s).domains
  unfolding domain_left_seen
  domains-seen s none = seen-left (λ name. domain_sight p r s (presented c name)) (redacted_domain r touched) (domain_left_seen (redacted r touched s)) s.domains
      (λ name o at. domain-seen r touched o (standing_of p s o) (presented c name) (none.domains name o at)
      ∙ ap (λ (standing : Standing). domain_as r (looked_at (is_redacted r touched o.roid o.sponsor o.transfer) (presented c name)) standing (redacted_domain r touched o))
      (sym (standing-left p r touched s (redacted_domain r touched o))))

  module _ (s t : Registry) (one : AreOne r touched s t) (here : PresentsNone touched c s) (there : PresentsNone touched c t) where
    pub view-alike : view_for p r c s ≡ view_for p r c t
    view-alike = λ i. record {
      clock = same-clock r touched s t one i;
      account = same-own r touched s t one i;
      contacts = (contacts-seen s here ∙ ap (λ (x : Registry). map_values contact_left_seen x.contacts) one ∙ sym (contacts-seen t there)) i;
      hosts = same-hosts r touched s t one i;
      domains = (domains-seen s here ∙ ap (λ (x : Registry). map_values (domain_left_seen x) x.domains) one ∙ sym (domains-seen t there)) i;
    }

    pub decision-alike : decision p r c s ≡ decision p r c t
    decision-alike =
        ap (λ (clock : ℕ). decided p r clock c (facts p r c s)) (same-clock r touched s t one)
        ∙ ap (decided p r t.clock c) (same_facts p r c s t view-alike)

    pub answer-alike : answer p r c s ≡ answer p r c t
    answer-alike =
        ap (λ d. reply_of p r c d.verdict (account_of r s).commands) decision-alike
        ∙ ap (λ (a : Account). reply_of p r c (decision p r c t).verdict a.commands) (same-own r touched s t one)

-- ---- what everybody may look up

module _ (p : PolicyRules) (r : ℕ) (touched : Objects) where
  contacts-shown : (s : Registry) → (public_part p s).contacts ≡ (public_part p (redacted r touched s)).contacts
  contacts-shown s = seen-left (λ name. contact_face_of) (redacted_contact r touched) (λ name. contact_face_of) s.contacts (λ name o at. refl)

  domains-shown : (s : Registry) → (public_part p s).domains ≡ (public_part p (redacted r touched s)).domains
  domains-shown s = seen-left (λ name o. face_of (standing_of p s o) o) (redacted_domain r touched) (λ name o. face_of (standing_of p (redacted r touched s) o) o) s.domains
      (λ name o at. ap (λ (standing : Standing). face_of standing o) (sym (standing-left p r touched s (redacted_domain r touched o))))

  -- nothing of it is left out
  public-left : (s : Registry) → public_part p s ≡ public_part p (redacted r touched s)
  public-left s = λ i. record { clock = s.clock; contacts = contacts-shown s i; hosts = s.hosts; domains = domains-shown s i }

  pub same-public : (s t : Registry) → AreOne r touched s t → public_part p s ≡ public_part p t
  same-public s t one = public-left s ∙ ap (public_part p) one ∙ sym (public-left t)
