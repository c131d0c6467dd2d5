-- What a command is answered and what it changes, by the facts that bear on it.
use Rattle.std.specs.Prelude.{ℕ, Bool, ◌+◌, ◌-◌, max, min, List, [], ◌∷◌, map, Option, Some, None, option_map, if◌then◌else◌}
use Rattle.accounts.specs.Account.{saturating_next}
use Rattle.accounts.specs.declared.line.Line.{Line}
use Rattle.accounts.specs.declared.line.LineKind.{LineKind}
use Rattle.accounts.specs.declared.line.LineKind.TheVariants as lines
use Rattle.lifecycle.specs.declared.change.AccountChange.TheVariants.{Ack, Charge, CountCommand, RefundRunning, TakeSerial}
use Rattle.lifecycle.specs.Graces.{period_of}
use Rattle.lifecycle.specs.Refunds.{refund_at}
use Rattle.lifecycle.specs.Turns.{turns}
use Rattle.names.specs.RequestedName.{RequestedName, name_of}
use Rattle.names.specs.Zone.{ZoneRules}
use Rattle.objects.specs.declared.contact.Contact.{Contact}
use Rattle.objects.specs.declared.contact.ContactFace.{ContactFace}
use Rattle.objects.specs.declared.domain.Deletion.{Deletion}
use Rattle.objects.specs.declared.domain.Domain.{Domain}
use Rattle.objects.specs.declared.domain.DomainFace.{DomainFace}
use Rattle.objects.specs.declared.domain.FullDomain.{FullDomain}
use Rattle.objects.specs.declared.domain.Links.{Links}
use Rattle.objects.specs.declared.host.Host.{Host}
use Rattle.objects.specs.declared.roid.ObjectKind.{ObjectKind}
use Rattle.objects.specs.declared.roid.ObjectKind.TheVariants as kinds
use Rattle.objects.specs.declared.roid.Roid.{Roid}
use Rattle.objects.specs.declared.sight.Seen.{Seen}
use Rattle.objects.specs.declared.sight.Seen.TheVariants.{Full}
use Rattle.objects.specs.Links.{in_order}
use Rattle.objects.specs.Statuses.{amended_statuses}
use Rattle.policy.specs.Rules.{PolicyRules}
use Rattle.decisions.specs.declared.change.Change.{Change}
use Rattle.decisions.specs.declared.change.Change.TheVariants.{PutContact, DropContact, PutDomain, DropDomain, PutHost, DropHost, RenameHost, Post}
use Rattle.decisions.specs.declared.decision.Decision.{Decision}
use Rattle.protocol.specs.declared.code.Code.{Code}
use Rattle.protocol.specs.declared.command.Command.{Command}
use Rattle.protocol.specs.declared.command.Command.TheVariants.{Bad, Asked}
use Rattle.protocol.specs.declared.command.ContactUpdate.{ContactUpdate}
use Rattle.protocol.specs.declared.command.DomainUpdate.{DomainUpdate}
use Rattle.protocol.specs.declared.command.HostUpdate.{HostUpdate}
use Rattle.protocol.specs.declared.command.NewContact.{NewContact}
use Rattle.protocol.specs.declared.command.NewDomain.{NewDomain}
use Rattle.protocol.specs.declared.command.NewHost.{NewHost}
use Rattle.protocol.specs.declared.command.Request.{Request}
use Rattle.protocol.specs.declared.command.Request.TheVariants as requests
use Rattle.facts.specs.declared.facts.DomainFacts.{DomainFacts}
use Rattle.facts.specs.declared.facts.Facts.{Facts}
use Rattle.rules.specs.declared.verdict.Verdict.{Verdict}
use Rattle.protocol.specs.Codes.{is_accepted}
use Rattle.protocol.specs.Requests.{asks_of, final_name}
use Rattle.facts.specs.Facts.{is_inside, or_else}
use Rattle.facts.specs.Facts.{contact_seen, domain_at, domain_seen, host_seen}
use Rattle.facts.specs.Lists.{amended, itself}
use Rattle.decisions.specs.Changes.{in_full}
use Rattle.decisions.specs.Transfers.{contact_transfer_changes, domain_transfer_changes}
use Rattle.rules.specs.Charges.{charge_of, years_charged}
use Rattle.rules.specs.Deletion.{goes_at_once}
use Rattle.rules.specs.Verdicts.{judged}

-- ---- new objects: its own serial's ROID, and nothing set, transferred or deleted

abbrev pub new_roid : ObjectKind → ℕ → Facts → Roid
new_roid kind r f = record { kind = kind; creator = r; serial = saturating_next f.account.serial }

abbrev pub new_contact : ℕ → ℕ → Facts → NewContact → Contact
new_contact r t f new = record {
  name = new.name;
  roid = new_roid kinds.Contact r f;
  sponsor = r;
  created = t;
  transferred = None;
  updated = None;
  statuses = [];
  secret = new.secret;
  postal = new.postal;
  voice = new.voice;
  mail = new.mail;
  transfer = None;
}

abbrev pub new_links : NewDomain → Links
new_links new = record { registrant = new.registrant; admin = in_order new.admin; tech = in_order new.tech; hosts = in_order (map name_of new.hosts) }

-- for a year at least, so that it isn't due at once
abbrev pub new_domain : ℕ → ℕ → Facts → NewDomain → Domain
new_domain r t f new = record {
  name = name_of new.name;
  roid = new_roid kinds.Domain r f;
  sponsor = r;
  created = t;
  years = max 1 new.years;
  transferred = None;
  updated = None;
  statuses = [];
  secret = new.secret;
  links = new_links new;
  transfer = None;
  deletion = None;
}

-- a host in the zone has no registrar of its own; an external one has the registrar that gave it its
-- name
abbrev pub external_sponsor_of : ZoneRules → ℕ → List ℕ → Option ℕ
external_sponsor_of zone r name = if is_inside zone name then None else Some r

abbrev pub new_host : ZoneRules → ℕ → ℕ → Facts → NewHost → Host
new_host zone r t f new = record {
  name = name_of new.name;
  roid = new_roid kinds.Host r f;
  external_sponsor = external_sponsor_of zone r (name_of new.name);
  created = t;
  updated = None;
  statuses = [];
  addresses = in_order new.addresses;
}

-- ---- charges: each adds its line, also one of nothing, and its grace, if it has one, begins at once
-- (RFC 3915, 3.1)

-- what a request charges for the domain with this identifier
abbrev pub charge_line : LineKind → PolicyRules → ℕ → Roid → Request → Facts → Line
charge_line kind p t roid q f = record {
  kind = kind;
  roid = Some roid;
  recorded = t;
  years = years_charged t q f;
  cents = charge_of p t q f;
  started = option_map (λ period. t) (period_of kind);
  refunded = None;
}

abbrev pub charge : LineKind → PolicyRules → ℕ → ℕ → Roid → Request → Facts → Change
charge kind p r t roid q f = Post r (Charge (charge_line kind p t roid q f))

-- ---- updated objects: what isn't given stays

abbrev pub or_old : {A : Type 0} → Option A → A → A
or_old (Some new) old = new
or_old None old = old

abbrev pub updated_contact : ℕ → ContactUpdate → Contact → Contact
updated_contact t u c = record c {
  updated = Some t;
  statuses = amended_statuses c.statuses u.rem u.add;
  secret = or_old u.secret c.secret;
  postal = or_old u.postal c.postal;
  voice = or_else u.voice c.voice;
  mail = or_old u.mail c.mail;
}

abbrev pub updated_links : DomainUpdate → Links → Links
updated_links u links = record {
  registrant = or_old u.registrant links.registrant;
  admin = amended itself links.admin u.rem.admin u.add.admin;
  tech = amended itself links.tech u.rem.tech u.add.tech;
  hosts = amended name_of links.hosts u.rem.hosts u.add.hosts;
}

abbrev pub updated_domain : ℕ → DomainUpdate → Domain → Domain
updated_domain t u d = record d {
  updated = Some t;
  statuses = amended_statuses d.statuses u.rem.statuses u.add.statuses;
  secret = or_old u.secret d.secret;
  links = updated_links u d.links;
}

-- so many years more; their number stays at its greatest, and never falls
abbrev pub more_years : ℕ → ℕ → ℕ
more_years years more = max years (min (years + more) 0xFFFF_FFFF)

-- registered for longer (RFC 5731, 3.2.3)
abbrev pub renewed_domain : ℕ → ℕ → Domain → Domain
renewed_domain t years d = record d { years = more_years d.years years; updated = Some t }

-- deleted, without the years that are given back (RFC 5731, 3.2.2; RFC 3915, 3.1)
abbrev pub deleted_domain : ℕ → ℕ → Domain → Domain
deleted_domain t given d = record d {
  years = d.years - given;
  updated = Some t;
  deletion = Some (record { deleted = t; restore_requested = None });
}

-- its restoration is asked for, in place of an earlier request (RFC 3915, 4.2.5)
abbrev pub restoring_domain : ℕ → Domain → Domain
restoring_domain t d = record d {
  updated = Some t;
  deletion = option_map (λ (x : Deletion). record x { restore_requested = Some t }) d.deletion;
}

-- not deleted any more, and registered for the years more with which it expires after the moment
-- (RFC 3915, 4.2.5)
abbrev pub restored_domain : ℕ → Domain → Domain
restored_domain t d = record d { years = d.years + turns d t; updated = Some t; deletion = None }

-- the same after an update, which may rename the host
abbrev pub external_sponsor_after : ZoneRules → ℕ → Option RequestedName → Option ℕ → Option ℕ
external_sponsor_after zone r None by = by
external_sponsor_after zone r (Some name) by = external_sponsor_of zone r (name_of name)

abbrev pub updated_host : ZoneRules → ℕ → ℕ → HostUpdate → Host → Host
updated_host zone r t u h = record h {
  name = final_name u u.new_name;
  external_sponsor = external_sponsor_after zone r u.new_name h.external_sponsor;
  updated = Some t;
  statuses = amended_statuses h.statuses u.rem.statuses u.add.statuses;
  addresses = amended itself h.addresses u.rem.addresses u.add.addresses;
}

-- ---- changes

abbrev pub contact_changes : ℕ → ContactUpdate → Option (Seen Contact ContactFace) → List Change
contact_changes t u seen = in_full (λ (c : Contact). PutContact (updated_contact t u c) ∷ []) seen

abbrev pub domain_changes : ℕ → DomainUpdate → Option (Seen FullDomain DomainFace) → List Change
domain_changes t u seen = in_full (λ (known : FullDomain). PutDomain (updated_domain t u known.domain) ∷ []) seen

abbrev pub renewal_changes : PolicyRules → ℕ → ℕ → Request → Facts
    → Option (Seen FullDomain DomainFace) → List Change
renewal_changes p r t q f seen = in_full (λ (known : FullDomain).
    PutDomain (renewed_domain t (asks_of q).years known.domain) ∷ charge lines.Renew p r t known.domain.roid q f ∷ []) seen

abbrev pub restore_changes : ℕ → Option (Seen FullDomain DomainFace) → List Change
restore_changes t seen = in_full (λ (known : FullDomain). PutDomain (restoring_domain t known.domain) ∷ []) seen

-- the years that the domain needs are charged for
abbrev pub report_changes : PolicyRules → ℕ → ℕ → Request → Facts
    → Option (Seen FullDomain DomainFace) → List Change
report_changes p r t q f seen = in_full (λ (known : FullDomain).
    PutDomain (restored_domain t known.domain) ∷ charge lines.Restore p r t known.domain.roid q f ∷ []) seen

-- a domain that can be restored first stays
abbrev pub ending : Bool → ℕ → DomainFacts → Domain → Change
ending at_once t known d = if at_once then DropDomain known.name else PutDomain (deleted_domain t known.given_back.years d)

-- its sponsor gets back what it was charged in a grace that runs
abbrev pub deletion_changes : ℕ → ℕ → DomainFacts → Option (Seen FullDomain DomainFace)
    → List Change
deletion_changes r t known seen = in_full (λ (full : FullDomain).
    ending (goes_at_once (Some (Full full))) t known full.domain ∷ Post r (RefundRunning (refund_at t full.domain)) ∷ []) seen

abbrev pub deletion_at : ℕ → ℕ → Option DomainFacts → List Change
deletion_at r t None = []
deletion_at r t (Some known) = deletion_changes r t known known.seen

-- a host is put under its name, or goes to it from the one that it had
abbrev pub renaming : List ℕ → Host → Option RequestedName → List Change
renaming old h None = PutHost h ∷ []
renaming old h (Some name) = RenameHost old h ∷ []

abbrev pub host_changes : ZoneRules → ℕ → ℕ → HostUpdate → Option Host → List Change
host_changes zone r t u None = []
host_changes zone r t u (Some h) = renaming (name_of u.name) (updated_host zone r t u h) u.new_name

-- what an accepted command changes
unfoldable pub changes_of : PolicyRules → ℕ → ℕ → Request → Facts → List Change
changes_of p r t requests.Logout f = []
changes_of p r t requests.Balance f = []
changes_of p r t (requests.CreateContact new) f =
    PutContact (new_contact r t f new) ∷ Post r TakeSerial ∷ []
changes_of p r t (requests.CreateDomain new) f =
    PutDomain (new_domain r t f new) ∷ Post r TakeSerial ∷ charge lines.Create p r t (new_roid kinds.Domain r f) (requests.CreateDomain new) f ∷ []
changes_of p r t (requests.CreateHost new) f =
    PutHost (new_host p.zone r t f new) ∷ Post r TakeSerial ∷ []
changes_of p r t (requests.DeleteContact name) f = DropContact name ∷ []
changes_of p r t (requests.DeleteDomain name) f = deletion_at r t (domain_at f (name_of name))
changes_of p r t (requests.DeleteHost name) f = DropHost (name_of name) ∷ []
changes_of p r t (requests.UpdateContact u) f = contact_changes t u (contact_seen f u.name)
changes_of p r t (requests.UpdateDomain u) f = domain_changes t u (domain_seen f (name_of u.name))
changes_of p r t (requests.UpdateHost u) f =
    host_changes p.zone r t u (host_seen f (name_of u.name))
changes_of p r t (requests.RenewDomain name expires years) f =
    renewal_changes p r t (requests.RenewDomain name expires years) f (domain_seen f (name_of name))
changes_of p r t (requests.RequestRestore name) f = restore_changes t (domain_seen f (name_of name))
changes_of p r t (requests.ReportRestore name del_time res_time) f = report_changes p r t (requests.ReportRestore name del_time res_time) f (domain_seen f (name_of name))
changes_of p r t (requests.TransferContact name op secret) f =
    contact_transfer_changes p r t op (contact_seen f name)
changes_of p r t (requests.TransferDomain name op secret) f = domain_transfer_changes p r t op (requests.TransferDomain name op secret) f (domain_seen f (name_of name))
changes_of p r t requests.PollRequest f = []
changes_of p r t (requests.PollAck id) f = Post r (Ack id) ∷ []
changes_of p r t (requests.CheckContact names) f = []
changes_of p r t (requests.CheckDomain names) f = []
changes_of p r t (requests.CheckHost names) f = []
changes_of p r t (requests.InfoContact name secret) f = []
changes_of p r t (requests.InfoDomain name secret) f = []
changes_of p r t (requests.InfoHost name) f = []

-- a refused command changes nothing but the caller's counter
unfoldable pub changes_after : PolicyRules → ℕ → ℕ → Command → Facts → Code → List Change
changes_after p r t (Bad cl_trid code) f answered = []
changes_after p r t (Asked cl_trid request) f answered = if is_accepted answered then changes_of p r t request f else []

abbrev pub decided_with : PolicyRules → ℕ → ℕ → Command → Facts → Verdict → Decision
decided_with p r t c f v =
    record { verdict = v; changes = Post r CountCommand ∷ changes_after p r t c f v.code }

abbrev pub decided : PolicyRules → ℕ → ℕ → Command → Facts → Decision
decided p r t c f = decided_with p r t c f (judged p r t c f)
