-- What another registrar's command changes, in registries that are one but for what is redacted.
use Rattle.std.proofs.Common.{◌≡◌, ◌≢◌, inl, inr, ℕ, ◌+◌, ◌*◌, Bool, true, false, cond, not, ◌&&◌, ◌||◌, ◌==◌, List, [], ◌∷◌, Option, Some, None, is_none, option_and_then, option_map, refl, sym, ap, subst, ◌∙◌, eqb-true, arith}
use Rattle.std.proofs.{lemmas.Bool.ne_eqb, Math.Bool.or-false}
use Rattle.std.specs.Str.{bytes_eq}
use Rattle.accounts.specs.declared.line.LineKind.TheVariants as lines
use Rattle.accounts.specs.Lines.{is_same_roid}
use Rattle.facts.specs.declared.facts.{ContactFacts.ContactFacts, DomainFacts.DomainFacts, HostFacts.HostFacts}
use Rattle.facts.specs.Facts.{contact_facts, contact_seen, domain_at, domain_facts, domain_facts_of, domain_seen, facts, host_facts, host_seen, lookups, or_else}
use Rattle.lifecycle.specs.Turns.{turns}
use Rattle.names.specs.RequestedName.{RequestedName, name_of}
use Rattle.objects.specs.declared.roid.ObjectKind.TheVariants as kinds
use Rattle.objects.specs.declared.status.Status.TheVariants.{PendingTransfer}
use Rattle.protocol.specs.declared.command.{Action.TheVariants.ReportRestore, HostUpdate.HostUpdate, NewContact.NewContact}
use Rattle.protocol.specs.declared.command.{NewDomain.NewDomain, NewHost.NewHost}
use Rattle.protocol.specs.declared.command.Request.TheVariants as requests
use Rattle.protocol.specs.declared.transfer.TransferOp.TheVariants as ops
use Rattle.decisions.specs.Decisions.{changes_of, charge, contact_changes, deleted_domain, deletion_at, deletion_changes, domain_changes, host_changes, new_contact, new_domain, new_host, new_roid, or_old, renewal_changes, renewed_domain, report_changes, restore_changes, restored_domain, restoring_domain, updated_contact, updated_domain}
use Rattle.decisions.specs.Transfers.{contact_transfer_changes, contact_transferred_if, domain_transfer_changes, domain_transferred_if}
use Rattle.decisions.proofs.CommandLemmas.{at-itself}
use Rattle.rules.specs.declared.rules.Condition.TheVariants as conditions
use Rattle.rules.specs.Conditions.{contact_secret, contact_seen_shows, contact_sponsor, contact_transfer, domain_secret, domain_seen_shows, domain_sponsor, domain_transfer, is_anothers, is_authorized, is_shown, last_seen}
use Rattle.rules.specs.Charges.{price_of, years_needed}
use Rattle.isolation.proofs.AccountLemmas.{given-charges}
use Rattle.isolation.proofs.ChangeLemmas.{AreAlikeChanges, IsAlikeChange, put-contact-alike, put-domain-alike, same-change}
use Rattle.isolation.proofs.PairLemmas.{IsClosed, across, alike-then, alike-turned, authorized-open, contact-pair, domain-pair, equal-lists, own-open, requester-open, same-standing, through}
use Rattle.isolation.proofs.PutLemmas.{contact-hidden, contact-natural, contact-updated, domain-hidden, domain-natural, domain-updated}
use Rattle.isolation.proofs.RedactionLemmas.{same-clock, same-hosts, same-others, secret-twice, with_data, with_secret}
use Rattle.isolation.proofs.Words.{FinMap, get, nat_cmp, list_any, slice_cmp, and_from, not-false, not_from_false, or_from, or_left, or_parts, Account}
use Rattle.isolation.proofs.Words.{itself-roid, Facts, Charge, RefundRunning, TakeSerial, RunningRefund, given_back, refund_at, Registry, account_of}
use Rattle.isolation.proofs.Words.{standing_of, domain_sight, Contact, ContactFace, Domain, DomainFace, FullDomain, Host, Roid, Seen, Full}
use Rattle.isolation.proofs.Words.{Transfer, contact_face_of, face_of, contact_as, is_party, is_incoming, is_pending, PolicyRules}
use Rattle.isolation.proofs.Words.{Asked, ContactUpdate, DomainUpdate, Request, TransferOp, asks_of, holds_of, presented, presented_contact, Change}
use Rattle.isolation.proofs.Words.{DropDomain, PutContact, PutDomain, PutHost, Post, full_as, refusal_of, transfer_after, unrefused, Hidden, puts}
use Rattle.isolation.proofs.Words.{with_hidden, Objects, AreOne, is_redacted, no_postal, redacted_contact, redacted_domain, blank_if}
use Rattle.isolation.proofs.PairLemmas.{seen_if}

not-incoming : (r : ℕ) (last : Option Transfer) → is_pending last ≡ false → is_incoming r last ≡ false
not-incoming r None e = refl
not-incoming r (Some x) e = ap (λ (b : Bool). b && (x.requester == r)) e

-- who sponsors an object that no transfer pends of is its one party
out-own : (touched : Bool) (a b : Bool) → touched ≡ true → a ≡ false → b ≡ false → (touched && not (a || b)) ≡ true
out-own touched a b e f g = and_from touched _ e (not_from_false _ (or_from a b f g))

module _ (p : PolicyRules) (r q : ℕ) (other : q ≢ r) (touched : Objects) (s t : Registry) (one : AreOne r touched s t) (cl_trid : Option (List ℕ)) where
  abbrev AreAlike : List Change → List Change → Type 0
  AreAlike xs ys = AreAlikeChanges p r touched xs ys

  abbrev here : Request → Facts
  here request = facts p q (Asked cl_trid request) s

  abbrev there : Request → Facts
  there request = facts p q (Asked cl_trid request) t

  abbrev IsTakenHere : Request → Type 0
  IsTakenHere request = refusal_of p q s.clock request (here request) ≡ None

  abbrev IsTakenThere : Request → Type 0
  IsTakenThere request = refusal_of p q t.clock request (there request) ≡ None

  -- ---- the caller's account

  same-serial : (account_of q s).serial ≡ (account_of q t).serial
  same-serial = ap (λ (a : Account). a.serial) (same-others r touched s t one q other)

  -- facts in which the caller has the other serial
  serial_at : Facts → ℕ → Facts
  serial_at f n = record f { account = record f.account { serial = n } }

  same-back : (x y : RunningRefund) → x ≡ y → given_back p x (account_of q s).lines ≡ given_back p y (account_of q t).lines
  same-back x y same =
      sym (given-charges p x (account_of q s).lines)
      ∙ (λ i. given_back p (same i) (same-others r touched s t one q other i).lines)
      ∙ given-charges p y (account_of q t).lines

  -- ---- what is seen

  -- the one contact, domain or host of a command, as its facts have it
  seen-contact : (x : Registry) (request : Request) (name : List ℕ)
      → option_and_then (λ (k : ContactFacts). k.seen) (cond (bytes_eq name name) (Some (contact_facts (lookups p q (Asked cl_trid request) x) (Asked cl_trid request) name)) None)
      ≡ option_map (contact_as q (presented_contact (Asked cl_trid request) name)) (get x.contacts name)
  seen-contact x request name = ap (option_and_then (λ (k : ContactFacts). k.seen)) (at-itself name (contact_facts (lookups p q (Asked cl_trid request) x) (Asked cl_trid request) name))

  seen-domain : (x : Registry) (request : Request) (name : List ℕ)
      → option_and_then (λ (k : DomainFacts). k.seen) (cond (bytes_eq name name) (Some (domain_facts (lookups p q (Asked cl_trid request) x) (Asked cl_trid request) name)) None)
      ≡ option_map (domain_sight p q x (presented (Asked cl_trid request) name)) (get x.domains name)
  seen-domain x request name = ap (option_and_then (λ (k : DomainFacts). k.seen)) (at-itself name (domain_facts (lookups p q (Asked cl_trid request) x) (Asked cl_trid request) name))

  seen-host : (x : Registry) (request : Request) (name : List ℕ)
      → option_and_then (λ (k : HostFacts). k.host) (cond (bytes_eq name name) (Some (host_facts (lookups p q (Asked cl_trid request) x) (Asked cl_trid request) name)) None) ≡ get x.hosts name
  seen-host x request name = ap (option_and_then (λ (k : HostFacts). k.host)) (at-itself name (host_facts (lookups p q (Asked cl_trid request) x) (Asked cl_trid request) name))

  equal-change : (x y : Change) → x ≡ y → IsAlikeChange p r touched x y
  equal-change x y same = subst (λ (z : Change). IsAlikeChange p r touched x z) same (same-change p r touched x)

  -- what no secret opens is seen in full by its parties alone
  party-contact : (name : List ℕ) (xs ys : Option (Seen Contact ContactFace) → List Change) → IsClosed xs → IsClosed ys → (seen seen_too : Option (Seen Contact ContactFace))
      → seen ≡ option_map (contact_as q None) (get s.contacts name) → seen_too ≡ option_map (contact_as q None) (get t.contacts name)
      → ((c d : Contact) → redacted_contact r touched c ≡ redacted_contact r touched d → seen ≡ Some (Full c) → seen_too ≡ Some (Full d) → AreAlike (xs (Some (Full c))) (ys (Some (Full d))))
      → AreAlike (xs seen) (ys seen_too)
  party-contact name xs ys closed closed_too seen seen_too is is_too full =
      contact-pair p r q touched s t one name None None xs ys closed closed_too seen seen_too is is_too (λ c d same e f i. is_party q (same i).sponsor (same i).transfer || false) full

  party-domain : (name : List ℕ) (xs ys : Option (Seen FullDomain DomainFace) → List Change) → IsClosed xs → IsClosed ys → (seen seen_too : Option (Seen FullDomain DomainFace))
      → seen ≡ option_map (domain_sight p q s None) (get s.domains name) → seen_too ≡ option_map (domain_sight p q t None) (get t.domains name)
      → ((c d : Domain) → redacted_domain r touched c ≡ redacted_domain r touched d → seen ≡ Some (Full (full_as (standing_of p s c) c)) → seen_too ≡ Some (Full (full_as (standing_of p t d) d))
      → AreAlike (xs (Some (Full (full_as (standing_of p s c) c)))) (ys (Some (Full (full_as (standing_of p t d) d))))) → AreAlike (xs seen) (ys seen_too)
  party-domain name xs ys closed closed_too seen seen_too is is_too full =
      domain-pair p r q touched s t one name None None xs ys closed closed_too seen seen_too is is_too (λ c d same e f i. is_party q (same i).sponsor (same i).transfer || false) full

  -- ---- creates

  create-contact : (new : NewContact) → let f = here (requests.CreateContact new) in let g = there (requests.CreateContact new) in
      AreAlike (PutContact (new_contact q s.clock f new) ∷ Post q TakeSerial ∷ []) (PutContact (new_contact q s.clock g new) ∷ Post q TakeSerial ∷ [])
  unfolding serial_at
  create-contact new = equal-lists p r touched _ _ (λ i. PutContact (new_contact q s.clock (serial_at (here (requests.CreateContact new)) (same-serial i)) new) ∷ Post q TakeSerial ∷ [])

  create-host : (new : NewHost) → let f = here (requests.CreateHost new) in let g = there (requests.CreateHost new) in
      AreAlike (PutHost (new_host p.zone q s.clock f new) ∷ Post q TakeSerial ∷ []) (PutHost (new_host p.zone q s.clock g new) ∷ Post q TakeSerial ∷ [])
  unfolding serial_at
  create-host new = equal-lists p r touched _ _ (λ i. PutHost (new_host p.zone q s.clock (serial_at (here (requests.CreateHost new)) (same-serial i)) new) ∷ Post q TakeSerial ∷ [])

  abbrev domain_charge : NewDomain → Facts → Change
  domain_charge new f = charge lines.Create p q s.clock (new_roid kinds.Domain q f) (requests.CreateDomain new) f

  create-domain : (new : NewDomain) → let f = here (requests.CreateDomain new) in let g = there (requests.CreateDomain new) in
      AreAlike (PutDomain (new_domain q s.clock f new) ∷ Post q TakeSerial ∷ domain_charge new f ∷ []) (PutDomain (new_domain q s.clock g new) ∷ Post q TakeSerial ∷ domain_charge new g ∷ [])
  unfolding serial_at
  create-domain new =
      let f : ℕ → Facts = serial_at (here (requests.CreateDomain new)) in
      equal-lists p r touched _ _ (λ i. PutDomain (new_domain q s.clock (f (same-serial i)) new) ∷ Post q TakeSerial ∷ domain_charge new (f (same-serial i)) ∷ [])

  -- what the caller sponsors, and no transfer pends of, isn't the registrar's
  sponsored-out : (roid : Roid) (sponsor : ℕ) (last : Option Transfer) → touched roid ≡ true → not (sponsor == q) ≡ false → is_pending last ≡ false → is_redacted r touched roid sponsor last ≡ true
  sponsored-out roid sponsor last mine own over =
      out-own (touched roid) (sponsor == r) (is_incoming r last) mine (ap (λ (n : ℕ). n == r) (eqb-true sponsor q (not-false _ own)) ∙ ne_eqb q r other) (not-incoming r last over)

  -- nor is what it creates
  new-out : (roid : Roid) → touched roid ≡ true → is_redacted r touched roid q None ≡ true
  new-out roid e = out-own (touched roid) (q == r) false e (ne_eqb q r other) refl

  abbrev other_contact : Hidden → NewContact → NewContact
  other_contact h new = record new { secret = or_old h.secret new.secret; postal = or_old h.postal new.postal; voice = h.voice; mail = or_old h.mail new.mail }

  create-contact-hidden : (h : Hidden) (new : NewContact) → let f = here (requests.CreateContact new) in let g = there (requests.CreateContact (other_contact h new)) in
      ((roid : Roid) → list_any (puts roid) (PutContact (new_contact q s.clock f new) ∷ Post q TakeSerial ∷ []) ≡ true → touched roid ≡ true)
      → AreAlike (PutContact (new_contact q s.clock f new) ∷ Post q TakeSerial ∷ []) (PutContact (new_contact q s.clock g (other_contact h new)) ∷ Post q TakeSerial ∷ [])
  unfolding serial_at
  create-contact-hidden h new marks =
      let f : ℕ → Facts = serial_at (here (requests.CreateContact new)) in
      let roid : Roid = new_roid kinds.Contact q (here (requests.CreateContact new)) in
      let mine : touched roid ≡ true = marks roid (or_left (is_same_roid roid roid) false (itself-roid roid)) in
      let same : roid ≡ new_roid kinds.Contact q (there (requests.CreateContact (other_contact h new))) = λ i. new_roid kinds.Contact q (f (same-serial i)) in (
        put-contact-alike p r touched _ _ (contact-hidden r touched (new_contact q s.clock (here (requests.CreateContact new)) new) (new_contact q s.clock (there (requests.CreateContact (other_contact h new))) (other_contact h new))
            (new-out roid mine) (new-out _ (sym (ap touched same) ∙ mine))
            (λ i. with_data [] no_postal None [] (new_contact q s.clock (f (same-serial i)) new))),
        (same-change p r touched _, tt),
      )

  abbrev other_domain : Hidden → NewDomain → NewDomain
  other_domain h new = record new { secret = or_old h.secret new.secret }

  create-domain-hidden : (h : Hidden) (new : NewDomain) → let f = here (requests.CreateDomain new) in let g = there (requests.CreateDomain (other_domain h new)) in
      ((roid : Roid) → list_any (puts roid) (PutDomain (new_domain q s.clock f new) ∷ Post q TakeSerial ∷ domain_charge new f ∷ []) ≡ true → touched roid ≡ true)
      → AreAlike (PutDomain (new_domain q s.clock f new) ∷ Post q TakeSerial ∷ domain_charge new f ∷ []) (PutDomain (new_domain q s.clock g (other_domain h new)) ∷ Post q TakeSerial ∷ domain_charge (other_domain h new) g ∷ [])
  unfolding serial_at
  create-domain-hidden h new marks =
      let f : ℕ → Facts = serial_at (here (requests.CreateDomain new)) in
      let roid : Roid = new_roid kinds.Domain q (here (requests.CreateDomain new)) in
      let mine : touched roid ≡ true = marks roid (or_left (is_same_roid roid roid) false (itself-roid roid)) in
      let same : roid ≡ new_roid kinds.Domain q (there (requests.CreateDomain (other_domain h new))) = λ i. new_roid kinds.Domain q (f (same-serial i)) in (
        put-domain-alike p r touched _ _ (domain-hidden r touched (new_domain q s.clock (here (requests.CreateDomain new)) new) (new_domain q s.clock (there (requests.CreateDomain (other_domain h new))) (other_domain h new))
            (new-out roid mine) (new-out _ (sym (ap touched same) ∙ mine))
            (λ i. with_secret [] (new_domain q s.clock (f (same-serial i)) new))),
        (same-change p r touched _, (equal-change _ _ (λ i. domain_charge new (f (same-serial i))), tt)),
      )

  -- ---- updates

  update-contact : (u : ContactUpdate) → let request = requests.UpdateContact u in AreAlike (contact_changes s.clock u (contact_seen (here request) u.name)) (contact_changes s.clock u (contact_seen (there request) u.name))
  update-contact u =
      let request : Request = requests.UpdateContact u in
      party-contact u.name (contact_changes s.clock u) (contact_changes s.clock u)
      (record { none = refl; party = λ face x. refl; public = λ face. refl }) (record { none = refl; party = λ face x. refl; public = λ face. refl })
      (contact_seen (here request) u.name) (contact_seen (there request) u.name) (seen-contact s request u.name) (seen-contact t request u.name)
      (λ c d same e f. through p r touched (redacted_contact r touched) (λ x. PutContact (updated_contact s.clock u x) ∷ []) c d same
      (put-contact-alike p r touched _ _ (contact-updated r touched s.clock u c), tt) (put-contact-alike p r touched _ _ (contact-updated r touched s.clock u d), tt))

  update-domain : (u : DomainUpdate) → let request = requests.UpdateDomain u in AreAlike (domain_changes s.clock u (domain_seen (here request) (name_of u.name))) (domain_changes s.clock u (domain_seen (there request) (name_of u.name)))
  update-domain u =
      let request : Request = requests.UpdateDomain u in
      party-domain (name_of u.name) (domain_changes s.clock u) (domain_changes s.clock u)
      (record { none = refl; party = λ face x. refl; public = λ face. refl }) (record { none = refl; party = λ face x. refl; public = λ face. refl })
      (domain_seen (here request) (name_of u.name)) (domain_seen (there request) (name_of u.name)) (seen-domain s request (name_of u.name)) (seen-domain t request (name_of u.name))
      (λ c d same e f. through p r touched (redacted_domain r touched) (λ x. PutDomain (updated_domain s.clock u x) ∷ []) c d same
      (put-domain-alike p r touched _ _ (domain-updated r touched s.clock u c), tt) (put-domain-alike p r touched _ _ (domain-updated r touched s.clock u d), tt))

  abbrev other_contact_update : Hidden → ContactUpdate → ContactUpdate
  other_contact_update h u = record u { secret = h.secret; postal = h.postal; voice = h.voice; mail = h.mail }

  -- whoever updates a contact sponsors it, and no transfer of it pends
  updated-out : (u : ContactUpdate) (c : Contact) → IsTakenHere (requests.UpdateContact u) → contact_seen (here (requests.UpdateContact u)) u.name ≡ Some (Full c) → touched c.roid ≡ true → is_redacted r touched c.roid c.sponsor c.transfer ≡ true
  unfolding contact_seen_shows
  updated-out u c taken e mine =
      let request : Request = requests.UpdateContact u in
      sponsored-out c.roid c.sponsor c.transfer mine
      (sym (ap (is_anothers contact_sponsor q) e) ∙ (or_parts _ _ (unrefused p q s.clock request (here request) taken conditions.IsAnothers (search (inl, inr) depth 20))).0)
      (sym (ap (is_shown contact_seen_shows PendingTransfer) e) ∙ (or_parts _ _ (unrefused p q s.clock request (here request) taken (conditions.Shows PendingTransfer) (search (inl, inr) depth 20))).0)

  update-contact-hidden : (h : Hidden) (u : ContactUpdate) → let request = requests.UpdateContact u in let request_too = requests.UpdateContact (other_contact_update h u) in
      IsTakenHere request → ((roid : Roid) → list_any (puts roid) (contact_changes s.clock u (contact_seen (here request) u.name)) ≡ true → touched roid ≡ true)
      → AreAlike (contact_changes s.clock u (contact_seen (here request) u.name)) (contact_changes s.clock (other_contact_update h u) (contact_seen (there request_too) u.name))
  update-contact-hidden h u taken marks =
      let request : Request = requests.UpdateContact u in
      let request_too : Request = requests.UpdateContact (other_contact_update h u) in
      party-contact u.name (contact_changes s.clock u) (contact_changes s.clock (other_contact_update h u))
      (record { none = refl; party = λ face x. refl; public = λ face. refl }) (record { none = refl; party = λ face x. refl; public = λ face. refl })
      (contact_seen (here request) u.name) (contact_seen (there request_too) u.name) (seen-contact s request u.name) (seen-contact t request_too u.name)
      (λ c d same e f.
      let mine : touched c.roid ≡ true = marks c.roid (ap (λ seen. list_any (puts c.roid) (contact_changes s.clock u seen)) e ∙ or_left (is_same_roid c.roid c.roid) false (itself-roid c.roid)) in
      let out : is_redacted r touched c.roid c.sponsor c.transfer ≡ true = updated-out u c taken e mine in (
        put-contact-alike p r touched _ _ (contact-hidden r touched (updated_contact s.clock u c) (updated_contact s.clock (other_contact_update h u) d) out
            (sym (λ i. is_redacted r touched (same i).roid (same i).sponsor (same i).transfer) ∙ out)
            (λ i. with_data [] no_postal None [] (updated_contact s.clock u (same i)))),
        tt,
      ))

  abbrev other_domain_update : Hidden → DomainUpdate → DomainUpdate
  other_domain_update h u = record u { secret = h.secret }

  domain-updated-out : (u : DomainUpdate) (full : FullDomain) → IsTakenHere (requests.UpdateDomain u) → domain_seen (here (requests.UpdateDomain u)) (name_of u.name) ≡ Some (Full full) → touched full.domain.roid ≡ true
      → is_redacted r touched full.domain.roid full.domain.sponsor full.domain.transfer ≡ true
  unfolding domain_seen_shows
  domain-updated-out u full taken e mine =
      let request : Request = requests.UpdateDomain u in
      sponsored-out full.domain.roid full.domain.sponsor full.domain.transfer mine
      (sym (ap (is_anothers domain_sponsor q) e) ∙ (or_parts _ _ (unrefused p q s.clock request (here request) taken conditions.IsAnothers (search (inl, inr) depth 20))).0)
      (sym (ap (is_shown domain_seen_shows PendingTransfer) e) ∙ (or_parts _ _ (unrefused p q s.clock request (here request) taken (conditions.Shows PendingTransfer) (search (inl, inr) depth 20))).0)

  update-domain-hidden : (h : Hidden) (u : DomainUpdate) → let request = requests.UpdateDomain u in let request_too = requests.UpdateDomain (other_domain_update h u) in
      IsTakenHere request → ((roid : Roid) → list_any (puts roid) (domain_changes s.clock u (domain_seen (here request) (name_of u.name))) ≡ true → touched roid ≡ true)
      → AreAlike (domain_changes s.clock u (domain_seen (here request) (name_of u.name))) (domain_changes s.clock (other_domain_update h u) (domain_seen (there request_too) (name_of u.name)))
  update-domain-hidden h u taken marks =
      let request : Request = requests.UpdateDomain u in
      let request_too : Request = requests.UpdateDomain (other_domain_update h u) in
      party-domain (name_of u.name) (domain_changes s.clock u) (domain_changes s.clock (other_domain_update h u))
      (record { none = refl; party = λ face x. refl; public = λ face. refl }) (record { none = refl; party = λ face x. refl; public = λ face. refl })
      (domain_seen (here request) (name_of u.name)) (domain_seen (there request_too) (name_of u.name)) (seen-domain s request (name_of u.name)) (seen-domain t request_too (name_of u.name))
      (λ c d same e f.
      let mine : touched c.roid ≡ true = marks c.roid (ap (λ seen. list_any (puts c.roid) (domain_changes s.clock u seen)) e ∙ or_left (is_same_roid c.roid c.roid) false (itself-roid c.roid)) in
      let out : is_redacted r touched c.roid c.sponsor c.transfer ≡ true = domain-updated-out u (full_as (standing_of p s c) c) taken e mine in (
        put-domain-alike p r touched _ _ (domain-hidden r touched (updated_domain s.clock u c) (updated_domain s.clock (other_domain_update h u) d) out
            (sym (λ i. is_redacted r touched (same i).roid (same i).sponsor (same i).transfer) ∙ out)
            (λ i. with_secret [] (updated_domain s.clock u (same i)))),
        tt,
      ))

  update-host : (u : HostUpdate) → let request = requests.UpdateHost u in AreAlike (host_changes p.zone q s.clock u (host_seen (here request) (name_of u.name))) (host_changes p.zone q s.clock u (host_seen (there request) (name_of u.name)))
  update-host u =
      let request : Request = requests.UpdateHost u in
      equal-lists p r touched _ _ (ap (host_changes p.zone q s.clock u)
      (seen-host s request (name_of u.name) ∙ ap (λ (m : FinMap (slice_cmp nat_cmp) Host). get m (name_of u.name)) (same-hosts r touched s t one) ∙ sym (seen-host t request (name_of u.name))))

  -- ---- renewals and restorations

  kept-secret : (d x : Domain) → with_secret (blank_if (is_redacted r touched d.roid d.sponsor d.transfer) [] d.secret) x
      ≡ with_secret (blank_if (is_redacted r touched d.roid d.sponsor d.transfer) [] (blank_if (is_redacted r touched d.roid d.sponsor d.transfer) [] d.secret)) x
  kept-secret d x = secret-twice (is_redacted r touched d.roid d.sponsor d.transfer) (is_redacted r touched d.roid d.sponsor d.transfer) (λ e. e) d.secret x

  renew-domain : (name : RequestedName) (expires : List ℕ) (years : ℕ) → let request = requests.RenewDomain name expires years in
      AreAlike (renewal_changes p q s.clock request (here request) (domain_seen (here request) (name_of name))) (renewal_changes p q s.clock request (there request) (domain_seen (there request) (name_of name)))
  renew-domain name expires years =
      let request : Request = requests.RenewDomain name expires years in
      party-domain (name_of name) (renewal_changes p q s.clock request (here request)) (renewal_changes p q s.clock request (there request))
      (record { none = refl; party = λ face x. refl; public = λ face. refl }) (record { none = refl; party = λ face x. refl; public = λ face. refl })
      (domain_seen (here request) (name_of name)) (domain_seen (there request) (name_of name)) (seen-domain s request (name_of name)) (seen-domain t request (name_of name))
      (λ c d same e f. through p r touched (redacted_domain r touched) (λ x. PutDomain (renewed_domain s.clock years x) ∷ charge lines.Renew p q s.clock x.roid request (here request) ∷ []) c d same
      (put-domain-alike p r touched _ _ (kept-secret c (renewed_domain s.clock years c)), (same-change p r touched _, tt)) (put-domain-alike p r touched _ _ (kept-secret d (renewed_domain s.clock years d)), (same-change p r touched _, tt)))

  restore-domain : (name : RequestedName) → let request = requests.RequestRestore name in
      AreAlike (restore_changes s.clock (domain_seen (here request) (name_of name))) (restore_changes s.clock (domain_seen (there request) (name_of name)))
  restore-domain name =
      let request : Request = requests.RequestRestore name in
      party-domain (name_of name) (restore_changes s.clock) (restore_changes s.clock)
      (record { none = refl; party = λ face x. refl; public = λ face. refl }) (record { none = refl; party = λ face x. refl; public = λ face. refl })
      (domain_seen (here request) (name_of name)) (domain_seen (there request) (name_of name)) (seen-domain s request (name_of name)) (seen-domain t request (name_of name))
      (λ c d same e f. through p r touched (redacted_domain r touched) (λ x. PutDomain (restoring_domain s.clock x) ∷ []) c d same
      (put-domain-alike p r touched _ _ (kept-secret c (restoring_domain s.clock c)), tt) (put-domain-alike p r touched _ _ (kept-secret d (restoring_domain s.clock d)), tt))

  turns-left : (d : Domain) (u : ℕ) → turns (redacted_domain r touched d) u ≡ turns d u
  unfolding turns
  turns-left d u = refl

  same-turns : (c d : Domain) (u : ℕ) → redacted_domain r touched c ≡ redacted_domain r touched d → turns c u ≡ turns d u
  same-turns c d u same = sym (turns-left c u) ∙ ap (λ (x : Domain). turns x u) same ∙ turns-left d u

  restored-natural : (d : Domain) → redacted_domain r touched (restored_domain s.clock d) ≡ redacted_domain r touched (restored_domain s.clock (redacted_domain r touched d))
  restored-natural d =
      kept-secret d (restored_domain s.clock d)
      ∙ ap (λ (n : ℕ). record (redacted_domain r touched (restored_domain s.clock (redacted_domain r touched d))) { years = d.years + n }) (sym (turns-left d s.clock))

  -- the charge of a report, of so many years
  report_charge : Roid → ℕ → Change
  report_charge roid n = Post q (Charge (record {
    kind = lines.Restore;
    roid = Some roid;
    recorded = s.clock;
    years = n;
    cents = price_of p ReportRestore * n;
    started = None;
    refunded = None;
  }))

  report-domain : (name : RequestedName) (del_time res_time : ℕ) → let request = requests.ReportRestore name del_time res_time in
      AreAlike (report_changes p q s.clock request (here request) (domain_seen (here request) (name_of name))) (report_changes p q s.clock request (there request) (domain_seen (there request) (name_of name)))
  unfolding report_charge
  report-domain name del_time res_time =
      let request : Request = requests.ReportRestore name del_time res_time in
      party-domain (name_of name) (report_changes p q s.clock request (here request)) (report_changes p q s.clock request (there request))
      (record { none = refl; party = λ face x. refl; public = λ face. refl }) (record { none = refl; party = λ face x. refl; public = λ face. refl })
      (domain_seen (here request) (name_of name)) (domain_seen (there request) (name_of name)) (seen-domain s request (name_of name)) (seen-domain t request (name_of name))
      (λ c d same e f.
      let needed : years_needed s.clock (domain_seen (here request) (name_of name)) ≡ years_needed s.clock (domain_seen (there request) (name_of name)) = ap (years_needed s.clock) e ∙ same-turns c d s.clock same ∙ sym (ap (years_needed s.clock) f) in (
        put-domain-alike p r touched _ _ (restored-natural c ∙ ap (λ (x : Domain). redacted_domain r touched (restored_domain s.clock x)) same ∙ sym (restored-natural d)),
        (equal-change _ _ (λ i. report_charge (same i).roid (needed i)), tt),
      ))

  -- ---- deletions

  abbrev known_of : Registry → RequestedName → Option (Seen FullDomain DomainFace) → DomainFacts
  known_of x name seen = domain_facts_of (lookups p q (Asked cl_trid (requests.DeleteDomain name)) x) (Asked cl_trid (requests.DeleteDomain name)) (name_of name) seen

  deletion-is : (x : Registry) (name : RequestedName) → let request = requests.DeleteDomain name in let c = Asked cl_trid request in
      deletion_at q s.clock (domain_at (facts p q c x) (name_of name)) ≡ deletion_changes q s.clock (known_of x name (option_map (domain_sight p q x None) (get x.domains (name_of name)))) (option_map (domain_sight p q x None) (get x.domains (name_of name)))
  deletion-is x name = ap (deletion_at q s.clock) (at-itself (name_of name) (domain_facts (lookups p q (Asked cl_trid (requests.DeleteDomain name)) x) (Asked cl_trid (requests.DeleteDomain name)) (name_of name)))

  -- a domain goes at once, or is deleted without so many years
  abbrev ended_as : Bool → List ℕ → ℕ → Domain → Change
  ended_as at_once name years d = cond at_once (DropDomain name) (PutDomain (deleted_domain s.clock years d))

  ended-natural : (at_once : Bool) (name : List ℕ) (years : ℕ) (d : Domain) → IsAlikeChange p r touched (ended_as at_once name years d) (ended_as at_once name years (redacted_domain r touched d))
  ended-natural true name years d = same-change p r touched _
  ended-natural false name years d = put-domain-alike p r touched _ _ (kept-secret d (deleted_domain s.clock years d))

  delete-domain : (name : RequestedName) → let request = requests.DeleteDomain name in
      AreAlike (deletion_at q s.clock (domain_at (here request) (name_of name))) (deletion_at q s.clock (domain_at (there request) (name_of name)))
  delete-domain name =
      let mine : Option (Seen FullDomain DomainFace) = option_map (domain_sight p q s None) (get s.domains (name_of name)) in
      let yours : Option (Seen FullDomain DomainFace) = option_map (domain_sight p q t None) (get t.domains (name_of name)) in
      subst (λ (xs : List Change). AreAlike xs (deletion_at q s.clock (domain_at (there (requests.DeleteDomain name)) (name_of name)))) (sym (deletion-is s name))
      (subst (λ (ys : List Change). AreAlike (deletion_changes q s.clock (known_of s name mine) mine) ys) (sym (deletion-is t name))
      (party-domain (name_of name) (λ seen. deletion_changes q s.clock (known_of s name seen) seen) (λ seen. deletion_changes q s.clock (known_of t name seen) seen)
      (record { none = refl; party = λ face x. refl; public = λ face. refl }) (record { none = refl; party = λ face x. refl; public = λ face. refl })
      mine yours refl refl
      (λ c d same e f.
      let back : given_back p (refund_at s.clock c) (account_of q s).lines ≡ given_back p (refund_at t.clock d) (account_of q t).lines = same-back (refund_at s.clock c) (refund_at t.clock d) (λ i. refund_at (same-clock r touched s t one i) (same i)) in
      let standing : standing_of p s c ≡ standing_of p t d = same-standing p r q touched s t one (name_of name) c d same in
      let years : ℕ = (given_back p (refund_at s.clock c) (account_of q s).lines).years in
      let years_too : ℕ = (given_back p (refund_at t.clock d) (account_of q t).lines).years in (
        alike-then p r touched _ _ _ (ended-natural (standing_of p s c).graces.add (name_of name) years c)
            (alike-then p r touched _ _ _ (equal-change _ _ (λ i. ended_as (standing i).graces.add (name_of name) (back i).years (same i)))
            (alike-turned p r touched _ _ (ended-natural (standing_of p t d).graces.add (name_of name) years_too d))),
        (equal-change _ _ (λ i. Post q (RefundRunning (refund_at s.clock (same i)))), tt),
      ))))

  -- ---- transfers

  or-none : {A : Type 0} (o : Option A) → or_else o None ≡ o
  or-none None = refl
  or-none (Some x) = refl

  -- what an operation on a transfer finds at its object, where it isn't refused
  module _ {O : Type 0} (F : Type 0) (sponsor : O → ℕ) (secret_of : O → List ℕ) (last : O → Option Transfer) where
    abbrev Grants : TransferOp → Option (List ℕ) → Option (Seen O F) → Type 0
    Grants ops.Request secret seen = holds_of (is_authorized secret_of secret) seen ≡ true
    Grants ops.Query secret seen = Unit {0}
    Grants ops.Approve secret seen = (is_anothers sponsor q seen ≡ false) × (is_pending (option_and_then (last_seen last) seen) ≡ true)
    Grants ops.Reject secret seen = is_anothers sponsor q seen ≡ false
    Grants ops.Cancel secret seen = (holds_of (λ (y : Transfer). y.requester == q) (option_and_then (last_seen last) seen) ≡ true) × (is_pending (option_and_then (last_seen last) seen) ≡ true)

    -- so all of the object is seen
    opens : (op : TransferOp) (secret : Option (List ℕ)) (o : O) (face : F) (opened : Bool) → op ≢ ops.Query
        → Grants op secret (Some (seen_if q (is_party q (sponsor o) (last o) || opened) o face (last o))) → (is_party q (sponsor o) (last o) || opened) ≡ true
    opens ops.Request secret o face opened changes grants = authorized-open q o face (last o) secret_of secret _ grants
    opens ops.Query secret o face opened changes grants = absurd (changes refl)
    opens ops.Approve secret o face opened changes grants = own-open q o face (last o) sponsor _ grants.0
    opens ops.Reject secret o face opened changes grants = own-open q o face (last o) sponsor _ grants
    opens ops.Cancel secret o face opened changes grants = requester-open q o face last (sponsor o) opened _ refl grants.0 grants.1

    -- and a transfer that is approved is pending
    pends : (op : TransferOp) (secret : Option (List ℕ)) (o : O) → Grants op secret (Some (Full o)) → op ≡ ops.Approve → is_pending (last o) ≡ true
    pends ops.Approve secret o grants is = grants.1
    pends op secret o grants is = absurd cc

  -- ---- of contacts

  module _ (name : List ℕ) where
    abbrev Granted : TransferOp → Option (List ℕ) → Option (Seen Contact ContactFace) → Type 0
    Granted = Grants ContactFace contact_sponsor contact_secret contact_transfer

    abbrev asks : Option (List ℕ) → TransferOp → Request
    asks secret op = requests.TransferContact name op secret

    module _ (x : Registry) (secret : Option (List ℕ)) where
      abbrev known : TransferOp → Facts
      known op = facts p q (Asked cl_trid (asks secret op)) x

      abbrev last_known : TransferOp → Option Transfer
      last_known op = option_and_then (last_seen contact_transfer) (contact_seen (known op) name)

      granted : (op : TransferOp) → refusal_of p q x.clock (asks secret op) (known op) ≡ None → Granted op secret (contact_seen (known op) name)
      granted ops.Request taken = sym (or-false (holds_of (is_authorized contact_secret secret) (contact_seen (known ops.Request) name)))
          ∙ not-false _ (unrefused p q x.clock (asks secret ops.Request) (known ops.Request) taken conditions.SecretIsNotRight (search (inl, inr) depth 20))
      granted ops.Query taken = tt
      granted ops.Approve taken = (
        (or_parts _ _ (unrefused p q x.clock (asks secret ops.Approve) (known ops.Approve) taken conditions.IsAnothers (search (inl, inr) depth 20))).0,
        sym (ap is_pending (or-none (last_known ops.Approve))) ∙ not-false _ (unrefused p q x.clock (asks secret ops.Approve) (known ops.Approve) taken conditions.IsNotPending (search (inl, inr) depth 20)),
      )
      granted ops.Reject taken = (or_parts _ _ (unrefused p q x.clock (asks secret ops.Reject) (known ops.Reject) taken conditions.IsAnothers (search (inl, inr) depth 20))).0
      granted ops.Cancel taken = (
        sym (ap (holds_of (λ (y : Transfer). y.requester == q)) (or-none (last_known ops.Cancel))) ∙ not-false _ (unrefused p q x.clock (asks secret ops.Cancel) (known ops.Cancel) taken conditions.IsNotRequester (search (inl, inr) depth 20)),
        sym (ap is_pending (or-none (last_known ops.Cancel))) ∙ not-false _ (unrefused p q x.clock (asks secret ops.Cancel) (known ops.Cancel) taken conditions.IsNotPending (search (inl, inr) depth 20)),
      )

    query-changes-nothing : (u : ℕ) (seen : Option (Seen Contact ContactFace)) → contact_transfer_changes p q u ops.Query seen ≡ []
    query-changes-nothing u (Some (Full c)) = grind arith
    query-changes-nothing u seen = refl

    module _ (mine yours : Option (List ℕ)) where
      transfer-contact-by : (op : TransferOp) → op ≢ ops.Query → IsTakenHere (asks mine op) → IsTakenThere (asks yours op)
          → AreAlike (contact_transfer_changes p q s.clock op (contact_seen (here (asks mine op)) name)) (contact_transfer_changes p q s.clock op (contact_seen (there (asks yours op)) name))
      transfer-contact-by op changes taken taken_too =
          contact-pair p r q touched s t one name (presented_contact (Asked cl_trid (asks mine op)) name) (presented_contact (Asked cl_trid (asks yours op)) name)
          (contact_transfer_changes p q s.clock op) (contact_transfer_changes p q s.clock op)
          (record { none = refl; party = λ face x. refl; public = λ face. refl }) (record { none = refl; party = λ face x. refl; public = λ face. refl })
          (contact_seen (here (asks mine op)) name) (contact_seen (there (asks yours op)) name) (seen-contact s (asks mine op) name) (seen-contact t (asks yours op) name)
          (λ c d same e f. opens ContactFace contact_sponsor contact_secret contact_transfer op mine c (contact_face_of c) _ changes (subst (Granted op mine) e (granted s mine op taken))
          ∙ sym (opens ContactFace contact_sponsor contact_secret contact_transfer op yours d (contact_face_of d) _ changes (subst (Granted op yours) f (granted t yours op taken_too))))
          (λ c d same e f. through p r touched (redacted_contact r touched) (λ x. contact_transferred_if s.clock op (transfer_after p q s.clock op x.sponsor x.transfer) x) c d same
          (contact-natural p r q (ne_eqb q r other) touched s.clock op c c.transfer refl (pends ContactFace contact_sponsor contact_secret contact_transfer op mine c (subst (Granted op mine) e (granted s mine op taken))))
          (contact-natural p r q (ne_eqb q r other) touched s.clock op d d.transfer refl (pends ContactFace contact_sponsor contact_secret contact_transfer op yours d (subst (Granted op yours) f (granted t yours op taken_too)))))

      transfer-contact : (op : TransferOp) → IsTakenHere (asks mine op) → IsTakenThere (asks yours op)
          → AreAlike (contact_transfer_changes p q s.clock op (contact_seen (here (asks mine op)) name)) (contact_transfer_changes p q s.clock op (contact_seen (there (asks yours op)) name))
      transfer-contact ops.Query taken taken_too = equal-lists p r touched _ _ (query-changes-nothing s.clock _ ∙ sym (query-changes-nothing s.clock _))
      transfer-contact op taken taken_too = transfer-contact-by op (λ e. cc) taken taken_too

  -- ---- of domains

  module _ (name : RequestedName) where
    abbrev DomainGranted : TransferOp → Option (List ℕ) → Option (Seen FullDomain DomainFace) → Type 0
    DomainGranted = Grants DomainFace domain_sponsor domain_secret domain_transfer

    abbrev domain_asks : Option (List ℕ) → TransferOp → Request
    domain_asks secret op = requests.TransferDomain name op secret

    module _ (x : Registry) (secret : Option (List ℕ)) where
      abbrev domain_known : TransferOp → Facts
      domain_known op = facts p q (Asked cl_trid (domain_asks secret op)) x

      domain-granted : (op : TransferOp) → refusal_of p q x.clock (domain_asks secret op) (domain_known op) ≡ None → DomainGranted op secret (domain_seen (domain_known op) (name_of name))
      domain-granted ops.Request taken = not-false _ (unrefused p q x.clock (domain_asks secret ops.Request) (domain_known ops.Request) taken conditions.SecretIsNotRight (search (inl, inr) depth 20))
      domain-granted ops.Query taken = tt
      domain-granted ops.Approve taken = (
        (or_parts _ _ (unrefused p q x.clock (domain_asks secret ops.Approve) (domain_known ops.Approve) taken conditions.IsAnothers (search (inl, inr) depth 20))).0,
        not-false _ (unrefused p q x.clock (domain_asks secret ops.Approve) (domain_known ops.Approve) taken conditions.IsNotPending (search (inl, inr) depth 20)),
      )
      domain-granted ops.Reject taken = (or_parts _ _ (unrefused p q x.clock (domain_asks secret ops.Reject) (domain_known ops.Reject) taken conditions.IsAnothers (search (inl, inr) depth 20))).0
      domain-granted ops.Cancel taken = (
        not-false _ (unrefused p q x.clock (domain_asks secret ops.Cancel) (domain_known ops.Cancel) taken conditions.IsNotRequester (search (inl, inr) depth 20)),
        not-false _ (unrefused p q x.clock (domain_asks secret ops.Cancel) (domain_known ops.Cancel) taken conditions.IsNotPending (search (inl, inr) depth 20)),
      )

    domain-query-changes-nothing : (u : ℕ) (request : Request) (f : Facts) (seen : Option (Seen FullDomain DomainFace)) → domain_transfer_changes p q u ops.Query request f seen ≡ []
    domain-query-changes-nothing u request f (Some (Full full)) = grind arith
    domain-query-changes-nothing u request f seen = refl

    module _ (mine yours : Option (List ℕ)) where
      transfer-domain-by : (op : TransferOp) → op ≢ ops.Query → IsTakenHere (domain_asks mine op) → IsTakenThere (domain_asks yours op)
          → AreAlike (domain_transfer_changes p q s.clock op (domain_asks mine op) (here (domain_asks mine op)) (domain_seen (here (domain_asks mine op)) (name_of name)))
          (domain_transfer_changes p q s.clock op (domain_asks yours op) (there (domain_asks yours op)) (domain_seen (there (domain_asks yours op)) (name_of name)))
      transfer-domain-by op changes taken taken_too =
          domain-pair p r q touched s t one (name_of name) (presented (Asked cl_trid (domain_asks mine op)) (name_of name)) (presented (Asked cl_trid (domain_asks yours op)) (name_of name))
          (domain_transfer_changes p q s.clock op (domain_asks mine op) (here (domain_asks mine op))) (domain_transfer_changes p q s.clock op (domain_asks yours op) (there (domain_asks yours op)))
          (record { none = refl; party = λ face x. refl; public = λ face. refl }) (record { none = refl; party = λ face x. refl; public = λ face. refl })
          (domain_seen (here (domain_asks mine op)) (name_of name)) (domain_seen (there (domain_asks yours op)) (name_of name)) (seen-domain s (domain_asks mine op) (name_of name)) (seen-domain t (domain_asks yours op) (name_of name))
          (λ c d same e g. opens DomainFace domain_sponsor domain_secret domain_transfer op mine (full_as (standing_of p s c) c) (face_of (standing_of p s c) c) _ changes (subst (DomainGranted op mine) e (domain-granted s mine op taken))
          ∙ sym (opens DomainFace domain_sponsor domain_secret domain_transfer op yours (full_as (standing_of p t d) d) (face_of (standing_of p t d) d) _ changes (subst (DomainGranted op yours) g (domain-granted t yours op taken_too))))
          (λ c d same e g. across p r touched (redacted_domain r touched) (λ x. domain_transferred_if p q s.clock op (domain_asks mine op) (here (domain_asks mine op)) (transfer_after p q s.clock op x.sponsor x.transfer) x)
          (λ x. domain_transferred_if p q s.clock op (domain_asks yours op) (there (domain_asks yours op)) (transfer_after p q s.clock op x.sponsor x.transfer) x) c d same
          (domain-natural p r q (ne_eqb q r other) touched s.clock name mine yours (here (domain_asks mine op)) (there (domain_asks yours op)) op c c.transfer refl (pends DomainFace domain_sponsor domain_secret domain_transfer op mine (full_as (standing_of p s c) c) (subst (DomainGranted op mine) e (domain-granted s mine op taken))))
          (domain-natural p r q (ne_eqb q r other) touched s.clock name yours yours (there (domain_asks yours op)) (there (domain_asks yours op)) op d d.transfer refl (pends DomainFace domain_sponsor domain_secret domain_transfer op yours (full_as (standing_of p t d) d) (subst (DomainGranted op yours) g (domain-granted t yours op taken_too)))))

      transfer-domain : (op : TransferOp) → IsTakenHere (domain_asks mine op) → IsTakenThere (domain_asks yours op)
          → AreAlike (domain_transfer_changes p q s.clock op (domain_asks mine op) (here (domain_asks mine op)) (domain_seen (here (domain_asks mine op)) (name_of name)))
          (domain_transfer_changes p q s.clock op (domain_asks yours op) (there (domain_asks yours op)) (domain_seen (there (domain_asks yours op)) (name_of name)))
      transfer-domain ops.Query taken taken_too = equal-lists p r touched _ _
          (domain-query-changes-nothing s.clock (domain_asks mine ops.Query) (here (domain_asks mine ops.Query)) _ ∙ sym (domain-query-changes-nothing s.clock (domain_asks yours ops.Query) (there (domain_asks yours ops.Query)) _))
      transfer-domain op taken taken_too = transfer-domain-by op (λ e. cc) taken taken_too

  -- ---- each request

  pub same-request : (request : Request) → IsTakenHere request → IsTakenThere request → AreAlike (changes_of p q s.clock request (here request)) (changes_of p q s.clock request (there request))
  unfolding changes_of
  same-request (requests.CreateContact new) taken taken_too = create-contact new
  same-request (requests.CreateDomain new) taken taken_too = create-domain new
  same-request (requests.CreateHost new) taken taken_too = create-host new
  same-request (requests.DeleteContact name) taken taken_too = (same-change p r touched _, tt)
  same-request (requests.DeleteDomain name) taken taken_too = delete-domain name
  same-request (requests.DeleteHost name) taken taken_too = (same-change p r touched _, tt)
  same-request (requests.UpdateContact u) taken taken_too = update-contact u
  same-request (requests.UpdateDomain u) taken taken_too = update-domain u
  same-request (requests.UpdateHost u) taken taken_too = update-host u
  same-request (requests.RenewDomain name expires years) taken taken_too = renew-domain name expires years
  same-request (requests.RequestRestore name) taken taken_too = restore-domain name
  same-request (requests.ReportRestore name del_time res_time) taken taken_too = report-domain name del_time res_time
  same-request (requests.TransferContact name op secret) taken taken_too = transfer-contact name secret secret op taken taken_too
  same-request (requests.TransferDomain name op secret) taken taken_too = transfer-domain name secret secret op taken taken_too
  same-request (requests.PollAck id) taken taken_too = (same-change p r touched _, tt)
  same-request request taken taken_too = tt

  -- the objects that are put are touched
  abbrev pub Marks : List Change → Type 0
  Marks changes = (roid : Roid) → list_any (puts roid) changes ≡ true → touched roid ≡ true

  pub hidden-request : (h : Hidden) (request : Request) → IsTakenHere request → IsTakenThere (with_hidden h request) → (is_none (asks_of request).secret ≡ true → Marks (changes_of p q s.clock request (here request)))
      → AreAlike (changes_of p q s.clock request (here request)) (changes_of p q s.clock (with_hidden h request) (there (with_hidden h request)))
  unfolding changes_of
  hidden-request h (requests.CreateContact new) taken taken_too marks = create-contact-hidden h new (marks refl)
  hidden-request h (requests.CreateDomain new) taken taken_too marks = create-domain-hidden h new (marks refl)
  hidden-request h (requests.CreateHost new) taken taken_too marks = create-host new
  hidden-request h (requests.DeleteContact name) taken taken_too marks = (same-change p r touched _, tt)
  hidden-request h (requests.DeleteDomain name) taken taken_too marks = delete-domain name
  hidden-request h (requests.DeleteHost name) taken taken_too marks = (same-change p r touched _, tt)
  hidden-request h (requests.UpdateContact u) taken taken_too marks = update-contact-hidden h u taken (marks refl)
  hidden-request h (requests.UpdateDomain u) taken taken_too marks = update-domain-hidden h u taken (marks refl)
  hidden-request h (requests.UpdateHost u) taken taken_too marks = update-host u
  hidden-request h (requests.RenewDomain name expires years) taken taken_too marks = renew-domain name expires years
  hidden-request h (requests.RequestRestore name) taken taken_too marks = restore-domain name
  hidden-request h (requests.ReportRestore name del_time res_time) taken taken_too marks = report-domain name del_time res_time
  hidden-request h (requests.TransferContact name op secret) taken taken_too marks = transfer-contact name secret h.secret op taken taken_too
  hidden-request h (requests.TransferDomain name op secret) taken taken_too marks = transfer-domain name secret h.secret op taken taken_too
  hidden-request h (requests.PollAck id) taken taken_too marks = (same-change p r touched _, tt)
  hidden-request h request taken taken_too marks = tt
