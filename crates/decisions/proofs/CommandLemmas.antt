-- What a command that isn't refused is known to find.
use Rattle.std.proofs.Common.{◌≡◌, ℕ, nat_lt, ◌==◌, Bool, true, false, cond, not, ◌&&◌, ◌||◌, List, [], ◌∷◌, map, find, Option, Some, None, option_and_then, option_map, refl, sym, ap, ◌∙◌, eqb-true, pos, int_lt}
use Rattle.decisions.proofs.Words.{bytes_decides, contact_face_of, ContactFacts, domain_sight, domain_sponsor, RequestedName, seen_by_outsider}
use Rattle.decisions.proofs.Words.{account_of, authorizes, contact_as, ContactFace, domain_seen, DomainFacts, is_anothers, PolicyRules, standing_of}
use Rattle.decisions.proofs.Words.{bytes_eq, DomainFace, Full, FullDomain, is_party, not-false, or_parts, presented, refusal_of, Registry, Transfer}
use Rattle.decisions.proofs.Words.{Asked, balance, Change, Command, Contact, Domain, face_of, Facts, facts, get, lookups, name_of, Request, Seen}
use Rattle.decisions.proofs.SightLemmas.{full_as, outside}
use Rattle.facts.specs.Facts.{contact_at, contact_facts, contact_seen, domain_at, domain_facts, host_at, host_facts}
use Rattle.protocol.specs.Requests.{contacts_asked, domains_asked, hosts_asked, presented_contact}
use Rattle.decisions.specs.Changes.{in_full}

-- ---- what is seen in full is the object itself

full-is : {O F : Type 0} (r : ℕ) (o : O) (face : F) (t : Option Transfer) (b : Bool) (x : O) → cond b (Full o) (seen_by_outsider r face t) ≡ Full x → o ≡ x
full-is r o face t true x e = cc
full-is {O} {F} r o face t false x e = absurd (outside (λ (seen : Seen O F). seen ≡ Full x → ⊥) r face t (λ a e. cc) (λ e. cc) e)

pub contact-full : (r : ℕ) (presented : Option (List ℕ)) (found : Option Contact) (c : Contact) → option_map (contact_as r presented) found ≡ Some (Full c) → found ≡ Some c
contact-full r presented None c e = absurd cc
contact-full r presented (Some o) c e =
    let same : contact_as r presented o ≡ Full c = cc in
    ap (λ (x : Contact). Some x) (full-is r o (contact_face_of o) o.transfer (is_party r o.sponsor o.transfer || authorizes presented o.secret) c same)

pub domain-full : (p : PolicyRules) (r : ℕ) (s : Registry) (presented : Option (List ℕ)) (found : Option Domain) (known : FullDomain)
    → option_map (domain_sight p r s presented) found ≡ Some (Full known) → found ≡ Some known.domain
domain-full p r s presented None known e = absurd cc
domain-full p r s presented (Some o) known e =
    let same : domain_sight p r s presented o ≡ Full known = cc in
    ap (λ (x : FullDomain). Some x.domain)
    (full-is r (full_as (standing_of p s o) o) (face_of (standing_of p s o) o) o.transfer (is_party r o.sponsor o.transfer || authorizes presented o.secret) known same)

-- ---- what is found first in a list of one, by its own name

pub at-itself : {A : Type 0} (name : List ℕ) (known : A) → (let found : Option A = cond (bytes_eq name name) (Some known) None in found ≡ Some known)
at-itself name known = ap (λ (b : Bool). let found : Option _ = cond b (Some known) None in found) ((bytes_decides name name).1 refl)

-- ---- what a request finds

-- the caller's balance covers a charge
abbrev pub Covers : ℕ → Registry → ℕ → Type 0
Covers r s charge = (nat_lt 0 charge && int_lt (balance (account_of r s).lines) (pos charge)) ≡ false

abbrev pub DomainSight : Type 0
DomainSight = Option (Seen FullDomain DomainFace)

abbrev pub ContactSight : Type 0
ContactSight = Option (Seen Contact ContactFace)

pub where-seen : {O F : Type 0} (P : List Change → Type 0) (changes : O → List Change) → P []
    → (seen : Option (Seen O F)) → ((o : O) → seen ≡ Some (Full o) → P (changes o)) → P (in_full changes seen)
where-seen P changes nothing None full = nothing
where-seen P changes nothing (Some (Full o)) full = full o refl
where-seen P changes nothing (Some _) full = nothing

module _ (p : PolicyRules) (r : ℕ) (cl_trid : Option (List ℕ)) (s : Registry) (q : Request) where
  abbrev asked : Command
  asked = Asked cl_trid q

  -- the facts of the request
  abbrev pub known : Facts
  known = facts p r (Asked cl_trid q) s

  -- the request isn't refused
  abbrev pub IsTaken : Type 0
  IsTaken = refusal_of p r s.clock q (facts p r (Asked cl_trid q) s) ≡ None

  -- what is known at the one name of its kind
  pub contact-at : (name : List ℕ) → contacts_asked q ≡ name ∷ [] → contact_at known name ≡ Some (contact_facts (lookups p r asked s) asked name)
  contact-at name only =
      ap (λ (names : List (List ℕ)). find (λ (it : ContactFacts). bytes_eq it.name name) (map (contact_facts (lookups p r asked s) asked) names)) only
      ∙ at-itself name (contact_facts (lookups p r asked s) asked name)

  pub domain-at : (name : RequestedName) → domains_asked q ≡ name ∷ [] → domain_at known (name_of name) ≡ Some (domain_facts (lookups p r asked s) asked (name_of name))
  domain-at name only =
      ap (λ (names : List RequestedName). find (λ (it : DomainFacts). bytes_eq it.name (name_of name)) (map (λ n. domain_facts (lookups p r asked s) asked (name_of n)) names)) only
      ∙ at-itself (name_of name) (domain_facts (lookups p r asked s) asked (name_of name))

  pub host-at : (name : RequestedName) → hosts_asked q ≡ name ∷ [] → host_at known (name_of name) ≡ Some (host_facts (lookups p r asked s) asked (name_of name))
  host-at name only = rw only (at-itself (name_of name) (host_facts (lookups p r asked s) asked (name_of name)))

  -- what holds of no change, and of what an object makes change that is seen in full, where it stands
  pub where-contact : (P : List Change → Type 0) (changes : Contact → List Change) (name : List ℕ) → contacts_asked q ≡ name ∷ [] → P []
      → ((c : Contact) → get s.contacts name ≡ Some c → P (changes c)) → P (in_full changes (contact_seen known name))
  where-contact P changes name only nothing full =
      where-seen P changes nothing (contact_seen known name) (λ c e.
      full c (contact-full r (presented_contact asked name) (get s.contacts name) c (sym (ap (option_and_then (λ (it : ContactFacts). it.seen)) (contact-at name only)) ∙ e)))

  pub where-domain : (P : List Change → Type 0) (changes : FullDomain → List Change) (name : RequestedName) → domains_asked q ≡ name ∷ [] → P []
      → ((full : FullDomain) → get s.domains (name_of name) ≡ Some full.domain → domain_seen known (name_of name) ≡ Some (Full full) → P (changes full)) → P (in_full changes (domain_seen known (name_of name)))
  where-domain P changes name only nothing full =
      where-seen P changes nothing (domain_seen known (name_of name)) (λ it e.
      full it (domain-full p r s (presented asked (name_of name)) (get s.domains (name_of name)) it (sym (ap (option_and_then (λ (it : DomainFacts). it.seen)) (domain-at name only)) ∙ e)) e)

-- what is seen in full, and isn't another's, is the registrar's own
pub owned : (r : ℕ) (seen : DomainSight) (full : FullDomain) → seen ≡ Some (Full full) → (b : Bool) → (is_anothers domain_sponsor r seen || b) ≡ false → r ≡ full.domain.sponsor
owned r seen full e b not_anothers =
    let own : not (full.domain.sponsor == r) ≡ false = sym (ap (λ (o : DomainSight). is_anothers domain_sponsor r o) e) ∙ (or_parts (is_anothers domain_sponsor r seen) b not_anothers).0 in
    sym (eqb-true full.domain.sponsor r (not-false (full.domain.sponsor == r) own))
