-- What commands put in the place of an object is alike, where the object is one but for what is redacted.
use Rattle.std.proofs.Common.{arith, ◌≡◌, ℕ, Bool, true, false, not, ◌&&◌, ◌==◌, List, [], Option, Some, None, refl, sym, ap, ◌∙◌}
use Rattle.lifecycle.specs.{Lapse.{contact_handed_over, gained, handed_over}, Transfers.{ended, requested}}
use Rattle.objects.specs.declared.transfer.TransferState.TheVariants.{ClientApproved}
use Rattle.protocol.specs.declared.transfer.TransferOp.TheVariants as ops
use Rattle.decisions.specs.Transfers.{contact_transferred_if, contact_with_transfer, domain_transferred_if, domain_with_transfer}
use Rattle.isolation.proofs.ChangeLemmas.{AreAlikeChanges, put-contact-alike, put-domain-alike, same-change}
use Rattle.isolation.proofs.RedactionLemmas.{left_out, left_out-twice, secret-twice, still-out, with_data, with_secret}
use Rattle.isolation.proofs.Words.{unwrap_or, not-true, not_from_false, or_from, or_parts, Facts, or_else, Contact, Postal, Domain, Roid, Transfer}
use Rattle.isolation.proofs.Words.{is_party, is_incoming, is_pending, is_pending_state, PolicyRules, ContactUpdate, DomainUpdate, TransferOp}
use Rattle.isolation.proofs.Words.{or_old, updated_contact, updated_domain, transfer_after, Objects, is_redacted, no_postal, redacted_contact}
use Rattle.isolation.proofs.Words.{redacted_domain, blank_if}
use Rattle.names.specs.RequestedName.{RequestedName}
use Rattle.protocol.specs.declared.command.Request.TheVariants.{TransferDomain}

-- ---- updates

-- hidden data that an update leaves, of what was left out or not
update-by : (out : Bool) (u : ContactUpdate) (secret : List ℕ) (postal : Postal) (voice : Option (List ℕ)) (mail : List ℕ) (x : Contact)
    → left_out out (or_old u.secret secret) (or_old u.postal postal) (or_else u.voice voice) (or_old u.mail mail) x
    ≡ left_out out (or_old u.secret (blank_if out [] secret)) (or_old u.postal (blank_if out no_postal postal)) (or_else u.voice (blank_if out None voice)) (or_old u.mail (blank_if out [] mail)) x
update-by out u secret postal voice mail x = grind arith

secret-by : (out : Bool) (given : Option (List ℕ)) (secret : List ℕ) (x : Domain) → with_secret (blank_if out [] (or_old given secret)) x ≡ with_secret (blank_if out [] (or_old given (blank_if out [] secret))) x
secret-by out given secret x = grind arith

module _ (r : ℕ) (touched : Objects) where
  pub contact-updated : (t : ℕ) (u : ContactUpdate) (c : Contact) → redacted_contact r touched (updated_contact t u c) ≡ redacted_contact r touched (updated_contact t u (redacted_contact r touched c))
  contact-updated t u c = update-by (is_redacted r touched c.roid c.sponsor c.transfer) u c.secret c.postal c.voice c.mail (updated_contact t u c)

  pub domain-updated : (t : ℕ) (u : DomainUpdate) (d : Domain) → redacted_domain r touched (updated_domain t u d) ≡ redacted_domain r touched (updated_domain t u (redacted_domain r touched d))
  domain-updated t u d = secret-by (is_redacted r touched d.roid d.sponsor d.transfer) u.secret d.secret (updated_domain t u d)

  -- a contact that is redacted shows nothing of what it was given
  pub contact-hidden : (x y : Contact) → is_redacted r touched x.roid x.sponsor x.transfer ≡ true → is_redacted r touched y.roid y.sponsor y.transfer ≡ true
      → with_data [] no_postal None [] x ≡ with_data [] no_postal None [] y → redacted_contact r touched x ≡ redacted_contact r touched y
  contact-hidden x y here there same =
      ap (λ (out : Bool). left_out out x.secret x.postal x.voice x.mail x) here ∙ same ∙ sym (ap (λ (out : Bool). left_out out y.secret y.postal y.voice y.mail y) there)

  pub domain-hidden : (x y : Domain) → is_redacted r touched x.roid x.sponsor x.transfer ≡ true → is_redacted r touched y.roid y.sponsor y.transfer ≡ true
      → with_secret [] x ≡ with_secret [] y → redacted_domain r touched x ≡ redacted_domain r touched y
  domain-hidden x y here there same =
      ap (λ (out : Bool). with_secret (blank_if out [] x.secret) x) here ∙ same ∙ sym (ap (λ (out : Bool). with_secret (blank_if out [] y.secret) y) there)

-- ---- transfers

module _ (p : PolicyRules) (r q : ℕ) (other : (q == r) ≡ false) (touched : Objects) (t : ℕ) where
  -- the requester is another
  out-requested : (roid : Roid) (sponsor : ℕ) (last : Option Transfer) → is_redacted r touched roid sponsor last ≡ true → is_redacted r touched roid sponsor (Some (requested p q sponsor t)) ≡ true
  out-requested roid sponsor last out = still-out (touched roid) (not (is_party r sponsor last)) _ (λ e. not_from_false _ (or_from (sponsor == r) _ (or_parts (sponsor == r) _ (not-true _ e)).0 other)) out

  -- a transfer that ended brings nothing
  out-ended : (roid : Roid) (sponsor : ℕ) (last : Option Transfer) (x : Transfer) → is_pending_state x.state ≡ false → is_redacted r touched roid sponsor last ≡ true → is_redacted r touched roid sponsor (Some x) ≡ true
  out-ended roid sponsor last x over out = still-out (touched roid) (not (is_party r sponsor last)) _
      (λ e. not_from_false _ (or_from (sponsor == r) _ (or_parts (sponsor == r) _ (not-true _ e)).0 (ap (λ (b : Bool). b && (x.requester == r)) over))) out

  -- whoever an object comes to was to have it
  out-handed : (roid : Roid) (sponsor : ℕ) (y x : Transfer) → is_pending_state y.state ≡ true → x.requester ≡ y.requester → is_pending_state x.state ≡ false
      → is_redacted r touched roid sponsor (Some y) ≡ true → is_redacted r touched roid x.requester (Some x) ≡ true
  out-handed roid sponsor y x pending same over out = still-out (touched roid) (not (is_party r sponsor (Some y))) _
      (λ e. not_from_false _ (or_from (x.requester == r) _
      (ap (λ (n : ℕ). n == r) same ∙ sym (ap (λ (b : Bool). b && (y.requester == r)) pending) ∙ (or_parts (sponsor == r) (is_incoming r (Some y)) (not-true _ e)).1)
      (ap (λ (b : Bool). b && (x.requester == r)) over))) out

  pub contact-natural : (op : TransferOp) (c : Contact) (last : Option Transfer) → c.transfer ≡ last → (op ≡ ops.Approve → is_pending last ≡ true)
      → AreAlikeChanges p r touched (contact_transferred_if t op (transfer_after p q t op c.sponsor last) c) (contact_transferred_if t op (transfer_after p q t op c.sponsor last) (redacted_contact r touched c))
  contact-natural ops.Request c last is pending = (
    put-contact-alike p r touched _ _ (left_out-twice (is_redacted r touched c.roid c.sponsor c.transfer) _ (out-requested c.roid c.sponsor c.transfer) c.secret c.postal c.voice c.mail (contact_with_transfer (requested p q c.sponsor t) c)),
    (same-change p r touched _, tt),
  )
  contact-natural ops.Approve c (Some y) is pending = (
    put-contact-alike p r touched _ _ (left_out-twice (is_redacted r touched c.roid c.sponsor c.transfer) _
        (λ out. out-handed c.roid c.sponsor y (ended ClientApproved t y) (pending refl) refl refl (sym (ap (λ (l : Option Transfer). is_redacted r touched c.roid c.sponsor l) is) ∙ out)) c.secret c.postal c.voice c.mail (contact_handed_over (ended ClientApproved t y) c)),
    (same-change p r touched _, tt),
  )
  contact-natural ops.Query c (Some y) is pending = tt
  contact-natural op c (Some y) is pending = let x : Transfer = unwrap_or (transfer_after p q t op c.sponsor (Some y)) y in (
    put-contact-alike p r touched _ _ (left_out-twice (is_redacted r touched c.roid c.sponsor c.transfer) _ (out-ended c.roid c.sponsor c.transfer x refl) c.secret c.postal c.voice c.mail (contact_with_transfer x c)),
    (same-change p r touched _, tt),
  )
  contact-natural op c last is pending = tt

  pub domain-natural : (name : RequestedName) (mine yours : Option (List ℕ)) (f g : Facts) (op : TransferOp) (d : Domain) (last : Option Transfer) → d.transfer ≡ last → (op ≡ ops.Approve → is_pending last ≡ true)
      → AreAlikeChanges p r touched (domain_transferred_if p q t op (TransferDomain name op mine) f (transfer_after p q t op d.sponsor last) d)
      (domain_transferred_if p q t op (TransferDomain name op yours) g (transfer_after p q t op d.sponsor last) (redacted_domain r touched d))
  domain-natural name mine yours f g ops.Request d last is pending = (
    put-domain-alike p r touched _ _ (secret-twice (is_redacted r touched d.roid d.sponsor d.transfer) _ (out-requested d.roid d.sponsor d.transfer) d.secret (domain_with_transfer (requested p q d.sponsor t) d)),
    (same-change p r touched _, (same-change p r touched _, tt)),
  )
  domain-natural name mine yours f g ops.Approve d (Some y) is pending = (
    same-change p r touched _,
    (
      put-domain-alike p r touched _ _ (secret-twice (is_redacted r touched d.roid d.sponsor d.transfer) _
          (λ out. out-handed d.roid d.sponsor y (ended ClientApproved t y) (pending refl) refl refl (sym (ap (λ (l : Option Transfer). is_redacted r touched d.roid d.sponsor l) is) ∙ out)) d.secret (handed_over (ended ClientApproved t y) (gained d t) d)),
      (same-change p r touched _, tt),
    ),
  )
  domain-natural name mine yours f g ops.Query d (Some y) is pending = tt
  domain-natural name mine yours f g op d (Some y) is pending = let x : Transfer = unwrap_or (transfer_after p q t op d.sponsor (Some y)) y in (
    put-domain-alike p r touched _ _ (secret-twice (is_redacted r touched d.roid d.sponsor d.transfer) _ (out-ended d.roid d.sponsor d.transfer x refl) d.secret (domain_with_transfer x d)),
    (same-change p r touched _, (same-change p r touched _, tt)),
  )
  domain-natural name mine yours f g op d last is pending = tt
