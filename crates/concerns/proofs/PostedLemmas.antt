-- What the lapse of an object posts goes to its sponsor and to the parties of its transfer alone.
use Rattle.std.proofs.Common.{◌≡◌, ◌≢◌, ℕ, ◌==◌, Bool, true, false, cond, ◌&&◌, ◌||◌, List, [], ◌∷◌, Option, Some, None, refl, sym, ap, subst, ◌∙◌, arith}
use Rattle.std.proofs.lemmas.Bool.{false_from_ne_true, or_parts, Decides.nat_tests}
use Rattle.std.specs.{Prelude.fold, Ordering.{eq_by_cmp, nat_cmp}}
use Rattle.accounts.specs.{declared.entries.Posting.Posting, Entries.{entered, posted}}
use Rattle.lifecycle.specs.Lapse.{due_by, lapse, lapse_contact}
use Rattle.objects.specs.{declared.{contact.Contact.Contact, domain.Domain.Domain, transfer.Transfer.Transfer}, Sight.is_party}
use Rattle.objects.specs.Transfers.{is_incoming, is_pending_state, names}
use Rattle.policy.specs.Rules.{PolicyRules}
use Rattle.model.specs.Registry.{Registry, account_of}
use Rattle.decisions.specs.Changes.{with_account}
use Rattle.concerns.specs.Concerns.{is_about, is_at_stake}
use Rattle.decisions.proofs.PostingLemmas.{AllPosted, contact-posted, domain-posted, due-is}
use Rattle.decisions.proofs.{ViewLemmas.{account_of-with_account, same_number}, LineTimeLemmas.due-pending}

module _ (P Q : Posting → Type 0) (weaker : (e : Posting) → P e → Q e) where
  pub post-weaker : (es : List Posting) → AllPosted P es → AllPosted Q es
  post-weaker [] all = tt
  post-weaker (e ∷ es) all = (weaker e all.0, post-weaker es all.1)

-- ---- to another registrar

abbrev pub IsElsewhere : ℕ → Posting → Type 0
IsElsewhere r e = e.registrar ≢ r

-- what is posted to others leaves an account as it is
pub elsewhere-posted : (r : ℕ) (es : List Posting) → AllPosted (IsElsewhere r) es → (s : Registry) → account_of r (record s { accounts = fold posted s.accounts es }) ≡ account_of r s
elsewhere-posted r [] all s = refl
elsewhere-posted r (e ∷ es) all s =
    elsewhere-posted r es all.1 (with_account e.registrar (entered e.what) s)
    ∙ account_of-with_account r e.registrar (entered e.what) s
    ∙ ap (λ (b : Bool). cond b (entered e.what (account_of r s)) (account_of r s)) (false_from_ne_true (eq_by_cmp nat_cmp r e.registrar) (λ same. all.0 (sym (same_number r e.registrar same))))

-- ---- a transfer that is due

not-equal : (a b : ℕ) → (a == b) ≡ false → a ≢ b
not-equal a b e same = grind (arith, nat_tests, e, same)

-- an object that isn't about a registrar
module _ (r sponsor t : ℕ) (transfer : Option Transfer) (e : is_about (Some r) sponsor transfer ≡ false) where
  incoming-off : (o : Option Transfer) → is_at_stake r o ≡ false → is_incoming r o ≡ false
  incoming-off None off = refl
  incoming-off (Some x) off = by (is_pending_state x.state) off
    where
      by : (b : Bool) → (b && names r x) ≡ false → (b && (x.requester == r)) ≡ false
      by true off = (or_parts (x.requester == r) (x.losing_registrar == r) off).0
      by false off = refl

  -- it isn't the registrar's, and no transfer brings it there
  pub not-party : is_party r sponsor transfer ≡ false
  not-party = let parts = or_parts (sponsor == r) (is_at_stake r transfer) e in λ i. parts.0 i || incoming-off transfer parts.1 i

  module _ (x : Transfer) (due : due_by t transfer ≡ Some x) where
    parties : ((x.requester == r) ≡ false) × ((x.losing_registrar == r) ≡ false)
    parties =
        let about : is_about (Some r) sponsor (Some x) ≡ false = subst (λ (o : Option Transfer). is_about (Some r) sponsor o ≡ false) (due-is t transfer x due).0 e in
        or_parts (x.requester == r) (x.losing_registrar == r)
        (sym (ap (λ (b : Bool). b && names r x) (due-pending t transfer x due)) ∙ (or_parts (sponsor == r) (is_at_stake r (Some x)) about).1)

    pub requester-off : (x.requester == r) ≡ false
    requester-off = parties.0

    requester-other : x.requester ≢ r
    requester-other = not-equal x.requester r parties.0

    losing-other : x.losing_registrar ≢ r
    losing-other = not-equal x.losing_registrar r parties.1

  sponsor-other : sponsor ≢ r
  sponsor-other = not-equal sponsor r (or_parts (sponsor == r) (is_at_stake r transfer) e).0

-- ---- what contacts and domains post

module _ (r t : ℕ) (p : PolicyRules) where
  pub contact-elsewhere : (c : Contact) → is_about (Some r) c.sponsor c.transfer ≡ false → AllPosted (IsElsewhere r) (lapse_contact t c).postings
  contact-elsewhere c e = contact-posted p t (IsElsewhere r) c (λ x due. (losing-other r c.sponsor t c.transfer e x due, (requester-other r c.sponsor t c.transfer e x due, tt)))

  pub domain-elsewhere : (d : Domain) → is_about (Some r) d.sponsor d.transfer ≡ false → AllPosted (IsElsewhere r) (lapse p t d).postings
  domain-elsewhere d e =
      let own : d.sponsor ≢ r = sponsor-other r d.sponsor t d.transfer e in
      domain-posted p t (IsElsewhere r) d (λ k come. (own, (own, tt))) (λ x due.
      let to : x.requester ≢ r = requester-other r d.sponsor t d.transfer e x due in
      ((to, (losing-other r d.sponsor t d.transfer e x due, (to, tt))), λ k come. (to, (to, tt)))) (λ x past. own)
