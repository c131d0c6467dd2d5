-- Time passes alike in registries that are one but for what is redacted.
use Rattle.std.proofs.Common.{◌≡◌, ℕ, zero, suc, max, Bool, true, false, cond, not, ◌&&◌, ◌||◌, ◌==◌, nat_le, nat_lt, List, [], ◌∷◌, ◌++◌, map, arith, Option, Some, None, option_map, refl, sym, ap, ap₂, ◌∙◌}
use Rattle.std.specs.Option.{option_map_or}
use Rattle.basis.specs.Sweeps.{given, given_list, kept}
use Rattle.basis.proofs.ApartLaws.{get-kept}
use Rattle.lifecycle.specs.Lapse.{approved, completion, contact_completed, contact_moved, due_by, gained, lapse as lapse_domain, lapse_by, lapse_contact, leaves, lived, moved, purged, raised, renewals, turn}
use Rattle.lifecycle.specs.{Phases.purge_at, Turns.turns}
use Rattle.objects.specs.declared.domain.Deletion.{Deletion}
use Rattle.model.specs.Lapse.{accounts_at, contacts_at, domains_at, lapse, lapsed, postings}
use Rattle.isolation.proofs.ChangeLemmas.{Accounts, Named, account-alike, entered-alike}
use Rattle.isolation.proofs.RedactionLemmas.{left_out-twice, same-clock, secret-twice, still-out}
use Rattle.isolation.proofs.Words.{fold, slice_cmp, nat_list_cmp_total, entries, get, same_map, nat_cmp, Posting, posted, map_values}
use Rattle.isolation.proofs.Words.{names_apart, entries-map_values, get-map_values, Contact, Domain, Transfer, is_party, is_pending_state, PolicyRules}
use Rattle.isolation.proofs.Words.{Registry, Objects, AreOne, is_redacted, redacted, redacted_account, redacted_contact, redacted_domain}

-- ---- a completed transfer brings nothing to the registrar but what was coming to it

-- whoever isn't a party to an object isn't its sponsor after its transfer
handed-elsewhere : (r sponsor : ℕ) (t : ℕ) (last : Option Transfer) (x after : Transfer) → due_by t last ≡ Some x → after.requester ≡ x.requester → is_pending_state after.state ≡ false
    → not (is_party r sponsor last) ≡ true → not (is_party r x.requester (Some after)) ≡ true
handed-elsewhere r sponsor t None x after due same ended stranger = absurd cc
handed-elsewhere r sponsor t (Some y) x after due same ended stranger = by (sponsor == r) (is_pending_state y.state) (nat_le y.ac_date t) due stranger
  where
    coming : (b c : Bool) → not (b || c) ≡ true → c ≡ false
    coming b c e = grind arith

    over : (b : Bool) → b ≡ false → not (b || (is_pending_state after.state && (after.requester == r))) ≡ true
    over b e = ap (λ (c : Bool). not (c || (is_pending_state after.state && (after.requester == r)))) e ∙ ap (λ (c : Bool). not (c && (after.requester == r))) ended

    by : (a pending due : Bool) → cond (pending && due) (Some y) None ≡ Some x → not (a || (pending && (y.requester == r))) ≡ true → not ((x.requester == r) || (is_pending_state after.state && (after.requester == r))) ≡ true
    by a true true e stranger =
        let is : y ≡ x = cc in
        over (x.requester == r) (ap (λ (z : Transfer). z.requester == r) (sym is) ∙ coming a (y.requester == r) stranger)
    by a true false e stranger = absurd cc
    by a false due e stranger = absurd cc

-- ---- the lapse of an object

module _ (r : ℕ) (touched : Objects) where
  contact-completed : (t : ℕ) (c : Contact) (due : Option Transfer) → due_by t c.transfer ≡ due
      → option_map (redacted_contact r touched) (contact_completed due c).object ≡ option_map (redacted_contact r touched) (contact_completed due (redacted_contact r touched c)).object
  contact-completed t c None e = ap (λ (x : Contact). Some x) (left_out-twice (is_redacted r touched c.roid c.sponsor c.transfer) (is_redacted r touched c.roid c.sponsor c.transfer) (λ e. e) c.secret c.postal c.voice c.mail c)
  contact-completed t c (Some x) e = ap (λ (y : Contact). Some y)
      (left_out-twice (is_redacted r touched c.roid c.sponsor c.transfer) (is_redacted r touched c.roid x.requester (Some (approved x)))
      (still-out (touched c.roid) (not (is_party r c.sponsor c.transfer)) (not (is_party r x.requester (Some (approved x)))) (handed-elsewhere r c.sponsor t c.transfer x (approved x) e refl refl))
      c.secret c.postal c.voice c.mail (contact_moved x c))

  contact-left : (t : ℕ) (c : Contact) → option_map (redacted_contact r touched) (lapse_contact t c).object ≡ option_map (redacted_contact r touched) (lapse_contact t (redacted_contact r touched c)).object
  contact-left t c = contact-completed t c (due_by t c.transfer) refl

  contact-posts : (t : ℕ) (c : Contact) → (lapse_contact t (redacted_contact r touched c)).postings ≡ (lapse_contact t c).postings
  contact-posts t c = by (due_by t c.transfer)
    where
      by : (due : Option Transfer) → (contact_completed due (redacted_contact r touched c)).postings ≡ (contact_completed due c).postings
      by None = refl
      by (Some x) = refl

  renewals-left : (p : PolicyRules) (d : Domain) (n : ℕ) → renewals p (redacted_domain r touched d) n ≡ renewals p d n
  unfolding renewals
  renewals-left p d zero = refl
  renewals-left p d (suc n) = ap (λ (ps : List Posting). ps ++ turn p d n) (renewals-left p d n)

  -- the domain as it is when its transfer is completed, and then
  abbrev lived_to : Transfer → Domain → Domain
  lived_to x d = raised (turns d x.ac_date) d

  abbrev lived_on : ℕ → Transfer → Domain → Domain
  lived_on t x d = raised (turns (moved x (lived_to x d)) t) (moved x (lived_to x d))

  domain-lived : (p : PolicyRules) (t : ℕ) (d : Domain) (due : Option Transfer) → due_by t d.transfer ≡ due
      → option_map (redacted_domain r touched) (lived p t due d).object ≡ option_map (redacted_domain r touched) (lived p t due (redacted_domain r touched d)).object
  unfolding turns
  domain-lived p t d None e = ap (λ (x : Domain). Some x) (secret-twice (is_redacted r touched d.roid d.sponsor d.transfer) (is_redacted r touched d.roid d.sponsor d.transfer) (λ e. e) d.secret (raised (turns d t) d))
  domain-lived p t d (Some x) e = ap (λ (y : Domain). Some y)
      (secret-twice (is_redacted r touched d.roid d.sponsor d.transfer) (is_redacted r touched d.roid x.requester (Some (approved x)))
      (still-out (touched d.roid) (not (is_party r d.sponsor d.transfer)) (not (is_party r x.requester (Some (approved x)))) (handed-elsewhere r d.sponsor t d.transfer x (approved x) e refl refl))
      d.secret (lived_on t x d))

  domain-lapse : (p : PolicyRules) (t : ℕ) (d : Domain) (deletion : Option Deletion)
      → option_map (redacted_domain r touched) (lapse_by p t deletion d).object ≡ option_map (redacted_domain r touched) (lapse_by p t deletion (redacted_domain r touched d)).object
  domain-lapse p t d None = domain-lived p t d (due_by t d.transfer) refl
  domain-lapse p t d (Some x) = by (nat_lt t (purge_at p x))
    where
      by : (b : Bool) → option_map (redacted_domain r touched) (cond b (leaves d []) (purged p x d)).object
          ≡ option_map (redacted_domain r touched) (cond b (leaves (redacted_domain r touched d) []) (purged p x (redacted_domain r touched d))).object
      by true = ap (λ (x : Domain). Some x) (secret-twice (is_redacted r touched d.roid d.sponsor d.transfer) (is_redacted r touched d.roid d.sponsor d.transfer) (λ e. e) d.secret d)
      by false = refl

  domain-left : (p : PolicyRules) (t : ℕ) (d : Domain) → option_map (redacted_domain r touched) (lapse_domain p t d).object ≡ option_map (redacted_domain r touched) (lapse_domain p t (redacted_domain r touched d)).object
  domain-left p t d = domain-lapse p t d d.deletion

  moved-renewals : (p : PolicyRules) (x : Transfer) (d : Domain) (n : ℕ) → renewals p (moved x (lived_to x (redacted_domain r touched d))) n ≡ renewals p (moved x (lived_to x d)) n
  unfolding renewals turns
  moved-renewals p x d zero = refl
  moved-renewals p x d (suc n) = ap (λ (ps : List Posting). ps ++ turn p (moved x (lived_to x d)) n) (moved-renewals p x d n)

  lived-posts : (p : PolicyRules) (t : ℕ) (d : Domain) (due : Option Transfer) → (lived p t due (redacted_domain r touched d)).postings ≡ (lived p t due d).postings
  unfolding turns
  lived-posts p t d None = renewals-left p d (turns d t)
  lived-posts p t d (Some x) = ap₂ (λ (before after : List Posting). before ++ (completion x (gained (lived_to x d) x.ac_date) (lived_to x d) ++ after))
      (renewals-left p d (turns d x.ac_date)) (moved-renewals p x d (turns (moved x (lived_to x d)) t))

  domain-posts : (p : PolicyRules) (t : ℕ) (d : Domain) → (lapse_domain p t (redacted_domain r touched d)).postings ≡ (lapse_domain p t d).postings
  domain-posts p t d = by d.deletion
    where
      by : (deletion : Option Deletion) → (lapse_by p t deletion (redacted_domain r touched d)).postings ≡ (lapse_by p t deletion d).postings
      by None = lived-posts p t d (due_by t d.transfer)
      by (Some x) = elim (nat_lt t (purge_at p x)) as (λ (b : Bool). (cond b (leaves (redacted_domain r touched d) []) (purged p x (redacted_domain r touched d))).postings ≡ (cond b (leaves d []) (purged p x d)).postings) [ true ↦ refl | false ↦ refl ]

-- ---- maps that are swept

module _ {X : Type 0} (out : X → X) (left : X → Option X) (natural : (x : X) → option_map out (left x) ≡ option_map out (left (out x))) where
  swept-name : (m : Named X) (q : List ℕ) → get (map_values (λ (name : List ℕ). out) (kept (λ (name : List ℕ). left) m)) q ≡ get (map_values (λ (name : List ℕ). out) (kept (λ (name : List ℕ). left) (map_values (λ (name : List ℕ). out) m))) q
  swept-name m q =
      found m ∙ by (get m q)
      ∙ ap (λ (o : Option X). option_map out (option_map_or left o None)) (sym (get-map_values (slice_cmp nat_cmp) nat_list_cmp_total names_apart (λ name. out) m q))
      ∙ sym (found (map_values (λ name. out) m))
    where
      found : (k : Named X) → get (map_values (λ (name : List ℕ). out) (kept (λ (name : List ℕ). left) k)) q ≡ option_map out (option_map_or left (get k q) None)
      found k = get-map_values (slice_cmp nat_cmp) nat_list_cmp_total names_apart (λ name. out) (kept (λ (name : List ℕ). left) k) q
          ∙ ap (option_map out) (get-kept (slice_cmp nat_cmp) nat_list_cmp_total names_apart (λ (name : List ℕ). left) k q)

      by : (o : Option X) → option_map out (option_map_or left o None) ≡ option_map out (option_map_or left (option_map out o) None)
      by None = refl
      by (Some x) = natural x

  pub swept-left : (m : Named X) → map_values (λ (name : List ℕ). out) (kept (λ (name : List ℕ). left) m) ≡ map_values (λ (name : List ℕ). out) (kept (λ (name : List ℕ). left) (map_values (λ (name : List ℕ). out) m))
  swept-left m = same_map nat_list_cmp_total names_apart _ _ (swept-name m)

module _ {X : Type 0} (out : X → X) (posts : X → List Posting) (same : (x : X) → posts (out x) ≡ posts x) where
  given-list : (es : List (List ℕ × X)) → given_list (λ (name : List ℕ). posts) (map (λ (e : List ℕ × X). (e.0, out e.1)) es) ≡ given_list (λ (name : List ℕ). posts) es
  given-list [] = refl
  given-list (e ∷ es) = ap₂ (λ (a b : List Posting). a ++ b) (same e.1) (given-list es)

  pub given-left : (m : Named X) → given (λ (name : List ℕ). posts) (map_values (λ (name : List ℕ). out) m) ≡ given (λ (name : List ℕ). posts) m
  given-left m = ap (given_list (λ (name : List ℕ). posts)) (entries-map_values (slice_cmp nat_cmp) (λ (name : List ℕ). out) nat_list_cmp_total names_apart m) ∙ given-list (entries m)

-- ---- the lapse of a registry

module _ (p : PolicyRules) (r : ℕ) (touched : Objects) where
  posted-alike : (ps : List Posting) (a b : Accounts) → map_values (redacted_account r) a ≡ map_values (redacted_account r) b → map_values (redacted_account r) (fold posted a ps) ≡ map_values (redacted_account r) (fold posted b ps)
  posted-alike [] a b one = one
  posted-alike (x ∷ ps) a b one = posted-alike ps (posted a x) (posted b x) (account-alike r x.registrar _ _ (entered-alike r x.registrar x) a b one)

  abbrev all_posts : ℕ → Registry → List Posting
  all_posts t s = postings (λ name. lapse_contact t) (λ name. lapse_domain p t) s

  posts-left : (t : ℕ) (s : Registry) → all_posts t (redacted r touched s) ≡ all_posts t s
  posts-left t s = ap₂ (λ (a b : List Posting). a ++ b)
      (given-left (redacted_contact r touched) (λ c. (lapse_contact t c).postings) (contact-posts r touched t) s.contacts)
      (given-left (redacted_domain r touched) (λ d. (lapse_domain p t d).postings) (domain-posts r touched p t) s.domains)

  contacts-swept : (t : ℕ) (s : Registry) → map_values (λ name. redacted_contact r touched) (contacts_at t s.contacts) ≡ map_values (λ name. redacted_contact r touched) (contacts_at t (redacted r touched s).contacts)
  unfolding contacts_at
  contacts-swept t s = swept-left (redacted_contact r touched) (λ c. (lapse_contact t c).object) (contact-left r touched t) s.contacts

  domains-swept : (t : ℕ) (s : Registry) → map_values (λ name. redacted_domain r touched) (domains_at p t s.domains) ≡ map_values (λ name. redacted_domain r touched) (domains_at p t (redacted r touched s).domains)
  unfolding domains_at
  domains-swept t s = swept-left (redacted_domain r touched) (λ d. (lapse_domain p t d).object) (domain-left r touched p t) s.domains

  accounts-posted : (t : ℕ) (s x : Registry) → AreOne r touched s x → map_values (redacted_account r) (accounts_at p t s) ≡ map_values (redacted_account r) (accounts_at p t x)
  unfolding accounts_at
  accounts-posted t s x one =
      posted-alike (all_posts t s) s.accounts x.accounts (ap (λ (z : Registry). z.accounts) one)
      ∙ ap (λ (ps : List Posting). map_values (redacted_account r) (fold posted x.accounts ps)) (sym (posts-left t s) ∙ ap (all_posts t) one ∙ posts-left t x)

  pub lapse-alike : (t : ℕ) (s x : Registry) → AreOne r touched s x → AreOne r touched (lapse p t s) (lapse p t x)
  lapse-alike t s x one = λ i. record {
    contacts = (contacts-swept t s ∙ ap (λ (z : Registry). map_values (λ name. redacted_contact r touched) (contacts_at t z.contacts)) one ∙ sym (contacts-swept t x)) i;
    hosts = (one i).hosts;
    domains = (domains-swept t s ∙ ap (λ (z : Registry). map_values (λ name. redacted_domain r touched) (domains_at p t z.domains)) one ∙ sym (domains-swept t x)) i;
    accounts = accounts-posted t s x one i;
    clock = t;
  }

  pub lapsed-alike : (moment : ℕ) (s x : Registry) → AreOne r touched s x → AreOne r touched (lapsed p moment s) (lapsed p moment x)
  lapsed-alike moment s x one =
      lapse-alike (max moment s.clock) s x one
      ∙ ap (λ (clock : ℕ). redacted r touched (lapse p (max moment clock) x)) (same-clock r touched s x one)
