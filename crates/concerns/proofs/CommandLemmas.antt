-- A command and an order change what they concern, and other accounts so that it makes no difference to
-- what time enters into them.
use Rattle.std.proofs.Common.{◌≡◌, inl, inr, ℕ, Bool, true, false, cond, List, [], Option, Some, None, option_and_then, option_map, refl, sym, ap, subst, ◌∙◌}
use Rattle.std.specs.{FinMap.get, Str.bytes_eq}
use Rattle.facts.specs.declared.facts.{ContactFacts.ContactFacts, DomainFacts.DomainFacts, Facts.Facts}
use Rattle.facts.specs.Facts.{contact_facts, domain_facts, facts, host_seen, lookups}
use Rattle.names.specs.RequestedName.{RequestedName, name_of}
use Rattle.objects.specs.declared.{contact.{Contact.Contact, ContactFace.ContactFace}, domain.{Domain.Domain, DomainFace.DomainFace}}
use Rattle.objects.specs.declared.{domain.FullDomain.FullDomain, host.Host.Host, sight.Seen.Seen}
use Rattle.objects.specs.{declared.{sight.Seen.TheVariants.{Full, TransferParty, Public}, transfer.Transfer.Transfer}, Sight.contact_as}
use Rattle.policy.specs.Rules.{PolicyRules}
use Rattle.protocol.specs.declared.command.{Command.{Command, TheVariants.{Asked, Bad}}, HostUpdate.HostUpdate, Request.Request}
use Rattle.protocol.specs.{declared.transfer.TransferOp.TransferOp, Requests.{contacts_asked, domains_asked, presented, presented_contact}}
use Rattle.protocol.specs.declared.command.Request.TheVariants as requests
use Rattle.protocol.specs.declared.transfer.TransferOp.TheVariants as ops
use Rattle.model.specs.{Lapse.{Choice, now}, Registry.Registry, View.domain_sight}
use Rattle.decisions.specs.{declared.{change.Change.Change, decision.Decision.Decision}, Changes.changed_all}
use Rattle.decisions.specs.Decisions.{changes_after, changes_of, contact_changes, decided, deletion_at, deletion_changes, domain_changes, ending, host_changes, renaming, renewal_changes, report_changes, restore_changes, updated_host}
use Rattle.decisions.specs.Steps.{answer, decision, effect, reply_of}
use Rattle.decisions.specs.Transfers.{contact_transfer_changes, contact_transferred_if, domain_transfer_changes, domain_transferred_if}
use Rattle.concerns.specs.{declared.given.Names.Names, Concerns.{IsSettledIn, concerned, contact_name, domain_name}, Names.named_by}
use Rattle.concerns.proofs.ChangeLemmas.{AllSuit, IsNamedRoid, Suits, changed-now, suits-if}
use Rattle.concerns.proofs.ConcernLemmas.{in-first, in-itself, is_in, meant-borne, meant-named}
use Rattle.concerns.proofs.FactsLemmas.{account-now, contacts-acted, facts-now}
use Rattle.decisions.proofs.CommandLemmas.{at-itself, contact-full, domain-full}
use Rattle.rules.specs.{Deletion.goes_at_once, Transfers.transfer_after}

-- ---- commands

module _ (p : PolicyRules) (r : ℕ) (cl_trid : Option (List ℕ)) (u : Registry) where
  abbrev comm : Request → Command
  comm q = Asked cl_trid q

  abbrev given : Request → Names
  given q = named_by (comm q)

  abbrev Fit : Request → List Change → Type 0
  Fit q changes = AllSuit p (Some r) (given q) u changes

  abbrev t : ℕ
  t = u.clock

  abbrev chosen : Request → Choice
  chosen q = concerned (Some r) (given q) u

  -- what a request changes, by what is seen of an object
  by-sight : {F G : Type 0} (q : Request) (changes : Option (Seen F G) → List Change) (seen : Option (Seen F G)) → Fit q (changes None)
      → ((face : G) (transfer : Transfer) → Fit q (changes (Some (TransferParty face transfer))))
      → ((face : G) → Fit q (changes (Some (Public face)))) → ((known : F) → seen ≡ Some (Full known) → Fit q (changes (Some (Full known)))) → Fit q (changes seen)
  by-sight q changes None none party other full = none
  by-sight q changes (Some (Full known)) none party other full = full known refl
  by-sight q changes (Some (TransferParty face transfer)) none party other full = party face transfer
  by-sight q changes (Some (Public face)) none party other full = other face

  -- ---- contacts

  abbrev contact_known : Request → List ℕ → Option (Seen Contact ContactFace)
  contact_known q name = option_map (contact_as r (presented_contact (comm q) name)) (get u.contacts name)

  put-contact : (q : Request) (name : List ℕ) → is_in name (contacts_asked q) ≡ true → (seen : Option (Seen Contact ContactFace))
      → seen ≡ contact_known q name → (c : Contact) → seen ≡ Some (Full c) → (chosen q).contacts c.name ≡ true
  put-contact q name named seen sees c full = meant-borne contact_name u.contacts (given q).contacts name c _ (contacts-acted q name named) (contact-full r (presented_contact (comm q) name) (get u.contacts name) c (sym sees ∙ full))

  contact-transferred : (q : Request) (o : TransferOp) (last : Option Transfer) (c : Contact) → (chosen q).contacts c.name ≡ true → Fit q (contact_transferred_if t o last c)
  contact-transferred q o None c put = tt
  contact-transferred q ops.Query (Some x) c put = tt
  contact-transferred q _ (Some x) c put = (put, (inr tt, tt))

  -- what is seen of the contact that a request acts on alone
  contact-seen-at : (q : Request) (name : List ℕ)
      → option_and_then (λ (known : ContactFacts). known.seen) (cond (bytes_eq name name) (Some (contact_facts (lookups p r (comm q) u) (comm q) name)) None) ≡ contact_known q name
  contact-seen-at q name = ap (option_and_then (λ (known : ContactFacts). known.seen)) (at-itself name (contact_facts (lookups p r (comm q) u) (comm q) name))

  -- ---- domains

  abbrev Sight : Type 0
  Sight = Option (Seen FullDomain DomainFace)

  abbrev domain_known : Request → List ℕ → Sight
  domain_known q name = option_map (domain_sight p r u (presented (comm q) name)) (get u.domains name)

  -- what a request changes that acts on a domain: nothing, where the domain isn't seen in full
  on-domain : (q : Request) (name : List ℕ) → is_in name (domains_asked q) ≡ true → (changes : Sight → List Change) (seen : Sight) → seen ≡ domain_known q name → Fit q (changes None)
      → ((face : DomainFace) (transfer : Transfer) → Fit q (changes (Some (TransferParty face transfer)))) → ((face : DomainFace) → Fit q (changes (Some (Public face))))
      → ((known : FullDomain) → (chosen q).domains known.domain.name ≡ true → IsNamedRoid p (Some r) (given q) u known.domain.roid → Fit q (changes (Some (Full known)))) → Fit q (changes seen)
  on-domain q name named changes seen sees none party other full = by-sight q changes seen none party other (λ known e.
      let found : get u.domains name ≡ Some known.domain = domain-full p r u (presented (comm q) name) (get u.domains name) known (sym sees ∙ e) in
      let given_so : is_in name (given q).domains ≡ true = in-first name (domains_asked q) _ named in
      full known (meant-borne domain_name u.domains (given q).domains name known.domain _ given_so found) (name, known.domain, given_so, found, refl))

  ended : (q : Request) (known : DomainFacts) (d : Domain) (at_once : Bool) → (chosen q).domains known.name ≡ true → (chosen q).domains d.name ≡ true
      → Suits p (Some r) (given q) u (ending at_once t known d)
  ended q known d true named put = named
  ended q known d false named put = put

  domain-transferred : (q : Request) (f : Facts) (o : TransferOp) (last : Option Transfer) (d : Domain) → (chosen q).domains d.name ≡ true
      → IsNamedRoid p (Some r) (given q) u d.roid → Fit q (domain_transferred_if p r t o q f last d)
  domain-transferred q f o None d put named = tt
  domain-transferred q f ops.Request (Some x) d put named = (put, (inl refl, (inr tt, tt)))
  domain-transferred q f ops.Query (Some x) d put named = tt
  domain-transferred q f ops.Approve (Some x) d put named = (inr tt, (put, (inr tt, tt)))
  domain-transferred q f _ (Some x) d put named = (put, (inr named, (inr tt, tt)))

  -- what is seen of the domain that a request acts on alone
  seen-at : (q : Request) (name : List ℕ)
      → option_and_then (λ (known : DomainFacts). known.seen) (cond (bytes_eq name name) (Some (domain_facts (lookups p r (comm q) u) (comm q) name)) None) ≡ domain_known q name
  seen-at q name = ap (option_and_then (λ (known : DomainFacts). known.seen)) (at-itself name (domain_facts (lookups p r (comm q) u) (comm q) name))

  -- ---- hosts

  renamed : (q : Request) (old : List ℕ) (h : Host) (given : Option RequestedName) → Fit q (renaming old h given)
  renamed q old h None = (tt, tt)
  renamed q old h (Some name) = (tt, tt)

  host-updated : (x : HostUpdate) (seen : Option Host) → Fit (requests.UpdateHost x) (host_changes p.zone r t x seen)
  host-updated x None = tt
  host-updated x (Some h) = renamed (requests.UpdateHost x) (name_of x.name) (updated_host p.zone r t x h) x.new_name

  -- ---- each command

  contact-named : (q : Request) (name : List ℕ) → is_in name (contacts_asked q) ≡ true → (chosen q).contacts name ≡ true
  contact-named q name e = meant-named contact_name u.contacts (given q).contacts name _ (contacts-acted q name e)

  domain-named : (q : Request) (name : List ℕ) → is_in name (domains_asked q) ≡ true → (chosen q).domains name ≡ true
  domain-named q name e = meant-named domain_name u.domains (given q).domains name _ (in-first name (domains_asked q) _ e)

  request-suits : (q : Request) → Fit q (changes_of p r t q (facts p r (comm q) u))
  unfolding changes_of
  request-suits (requests.CreateContact new) = (contact-named (requests.CreateContact new) new.name (in-itself new.name []), (inl refl, tt))
  request-suits (requests.CreateDomain new) = (domain-named (requests.CreateDomain new) (name_of new.name) (in-itself (name_of new.name) []), (inl refl, (inl refl, tt)))
  request-suits (requests.CreateHost new) = (tt, (inl refl, tt))
  request-suits (requests.DeleteContact name) = (contact-named (requests.DeleteContact name) name (in-itself name []), tt)
  request-suits (requests.DeleteDomain name) =
      let q : Request = requests.DeleteDomain name in
      let known : DomainFacts = domain_facts (lookups p r (comm q) u) (comm q) (name_of name) in
      subst (λ (known : Option DomainFacts). Fit q (deletion_at r t known)) (sym (at-itself (name_of name) known))
      (on-domain q (name_of name) (in-itself (name_of name) []) (deletion_changes r t known) _ refl tt (λ face transfer. tt) (λ face. tt)
      (λ full put roid. (ended q known full.domain (goes_at_once (Some (Full full))) (domain-named q (name_of name) (in-itself (name_of name) [])) put, (inl refl, tt))))
  request-suits (requests.DeleteHost name) = (tt, tt)
  request-suits (requests.UpdateContact x) =
      let q : Request = requests.UpdateContact x in
      by-sight q (contact_changes t x) _ tt (λ face transfer. tt) (λ face. tt) (λ c e. (put-contact q x.name (in-itself x.name []) _ (contact-seen-at q x.name) c e, tt))
  request-suits (requests.UpdateDomain x) =
      let q : Request = requests.UpdateDomain x in
      on-domain q (name_of x.name) (in-itself (name_of x.name) []) (domain_changes t x) _ (seen-at q (name_of x.name)) tt (λ face transfer. tt) (λ face. tt) (λ known put roid. (put, tt))
  request-suits (requests.UpdateHost x) = host-updated x (host_seen (facts p r (comm (requests.UpdateHost x)) u) (name_of x.name))
  request-suits (requests.RenewDomain name expires years) =
      let q : Request = requests.RenewDomain name expires years in
      on-domain q (name_of name) (in-itself (name_of name) []) (renewal_changes p r t q (facts p r (comm q) u)) _ (seen-at q (name_of name)) tt (λ face transfer. tt) (λ face. tt) (λ known put roid. (put, (inl refl, tt)))
  request-suits (requests.RequestRestore name) =
      let q : Request = requests.RequestRestore name in
      on-domain q (name_of name) (in-itself (name_of name) []) (restore_changes t) _ (seen-at q (name_of name)) tt (λ face transfer. tt) (λ face. tt) (λ known put roid. (put, tt))
  request-suits (requests.ReportRestore name del_time res_time) =
      let q : Request = requests.ReportRestore name del_time res_time in
      on-domain q (name_of name) (in-itself (name_of name) []) (report_changes p r t q (facts p r (comm q) u)) _ (seen-at q (name_of name)) tt (λ face transfer. tt) (λ face. tt) (λ known put roid. (put, (inl refl, tt)))
  request-suits (requests.TransferContact name op secret) =
      let q : Request = requests.TransferContact name op secret in
      by-sight q (contact_transfer_changes p r t op) _ tt (λ face transfer. tt) (λ face. tt)
      (λ c e. contact-transferred q op (transfer_after p r t op c.sponsor c.transfer) c (put-contact q name (in-itself name []) _ (contact-seen-at q name) c e))
  request-suits (requests.TransferDomain name op secret) =
      let q : Request = requests.TransferDomain name op secret in
      on-domain q (name_of name) (in-itself (name_of name) []) (domain_transfer_changes p r t op q (facts p r (comm q) u)) _ (seen-at q (name_of name)) tt (λ face transfer. tt) (λ face. tt)
      (λ known put roid. domain-transferred q (facts p r (comm q) u) op (transfer_after p r t op known.domain.sponsor known.domain.transfer) known.domain put roid)
  request-suits (requests.PollAck id) = (inl refl, tt)
  request-suits _ = tt

-- ---- the laws of a command

command-suits : (p : PolicyRules) (r : ℕ) (c : Command) (u : Registry) → AllSuit p (Some r) (named_by c) u (decision p r c u).changes
unfolding changes_after
command-suits p r (Bad cl_trid fault) u = (inl refl, tt)
command-suits p r (Asked cl_trid q) u = (inl refl, suits-if p (Some r) (named_by (Asked cl_trid q)) u (changes_of p r u.clock q (facts p r (Asked cl_trid q) u)) _ (request-suits p r cl_trid u q))

module _ (p : PolicyRules) (r : ℕ) (c : Command) (u : Registry) (is : IsSettledIn p (concerned (Some r) (named_by c) u) u) where
  decision-now : decision p r c (now p u) ≡ decision p r c u
  decision-now = ap (decided p r u.clock c) (facts-now p r c u is)

  -- the reply is the one that is given now
  pub answer-now : answer p r c (now p u) ≡ answer p r c u
  answer-now = λ i. reply_of p r c (decision-now i).verdict (account-now p r c u is i).commands

  -- and so is what is left
  pub effect-now : now p (effect p r c u) ≡ now p (effect p r c (now p u))
  effect-now = changed-now p (Some r) (named_by c) u is (decision p r c u).changes (command-suits p r c u) ∙ ap (λ (d : Decision). now p (changed_all p d.changes (now p u))) (sym decision-now)
