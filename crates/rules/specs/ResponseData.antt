-- The data of an accepted command (RFC 5731 to 5733, 3.1 and 3.2).
use Rattle.std.specs.Prelude.{ℕ, Bool, List, [], map, Option, Some, None, is_some, option_map, option_and_then, unwrap_or, if◌then◌else◌, ◌==◌}
use Rattle.calendar.specs.Moment.{plus_years, capped}
use Rattle.names.specs.RequestedName.{RequestedName, name_of}
use Rattle.names.specs.Zone.{ZoneRules}
use Rattle.objects.specs.declared.contact.Contact.{Contact}
use Rattle.objects.specs.declared.contact.ContactFace.{ContactFace}
use Rattle.objects.specs.declared.domain.Domain.{Domain}
use Rattle.objects.specs.declared.domain.DomainFace.{DomainFace}
use Rattle.objects.specs.declared.domain.FullDomain.{FullDomain}
use Rattle.objects.specs.declared.host.Host.{Host}
use Rattle.objects.specs.declared.sight.Seen.{Seen}
use Rattle.objects.specs.declared.sight.Seen.TheVariants.{Full, TransferParty, Public}
use Rattle.objects.specs.declared.transfer.Transfer.{Transfer}
use Rattle.objects.specs.Contacts.{contact_face_of}
use Rattle.objects.specs.Domains.{face_of}
use Rattle.objects.specs.Hosts.{host_face_of}
use Rattle.objects.specs.Sight.{authorizes}
use Rattle.objects.specs.Statuses.{with_linked}
use Rattle.policy.specs.Rules.{PolicyRules, id_at}
use Rattle.protocol.specs.declared.command.NewDomain.{NewDomain}
use Rattle.protocol.specs.declared.command.Request.{Request}
use Rattle.protocol.specs.declared.command.Request.TheVariants as requests
use Rattle.facts.specs.declared.facts.ContactFacts.{ContactFacts}
use Rattle.facts.specs.declared.facts.DomainFacts.{DomainFacts}
use Rattle.facts.specs.declared.facts.HostFacts.{HostFacts}
use Rattle.facts.specs.declared.facts.Facts.{Facts}
use Rattle.protocol.specs.declared.reply.CheckResult.{CheckResult}
use Rattle.protocol.specs.declared.reply.ContactHidden.{ContactHidden}
use Rattle.protocol.specs.declared.reply.ContactInfo.{ContactInfo}
use Rattle.protocol.specs.declared.reply.Created.{Created}
use Rattle.protocol.specs.declared.reply.Data.{Data}
use Rattle.protocol.specs.declared.reply.Data.TheVariants as res_data
use Rattle.protocol.specs.declared.reply.DomainHidden.{DomainHidden}
use Rattle.protocol.specs.declared.reply.DomainInfo.{DomainInfo}
use Rattle.protocol.specs.declared.reply.HostInfo.{HostInfo}
use Rattle.protocol.specs.declared.reply.Reason.{Reason}
use Rattle.protocol.specs.declared.reply.Reason.TheVariants.{Policy, InUse}
use Rattle.protocol.specs.declared.reply.Renewed.{Renewed}
use Rattle.protocol.specs.declared.reply.TransferInfo.{TransferInfo}
use Rattle.protocol.specs.declared.reply.Transferred.{Transferred}
use Rattle.facts.specs.Facts.{host_sponsor}
use Rattle.facts.specs.Facts.{contact_at, contact_seen, domain_at, domain_seen, host_at, host_seen}
use Rattle.rules.specs.Charges.{charge_of, years_charged}
use Rattle.rules.specs.Conditions.{domain_in_full, domain_is_refused, host_is_refused, renewed_expiry}
use Rattle.rules.specs.Deletion.{deleted}
use Rattle.rules.specs.Transfers.{charge_shown, contact_after, domain_after}
use Rattle.rules.specs.Poll.{left, polled}

-- the id of the registrar at a place
abbrev pub id_of : PolicyRules → ℕ → List ℕ
id_of p r = unwrap_or (id_at p r) []

-- ---- check

abbrev pub in_use : Bool → Option Reason
in_use taken = if taken then Some InUse else None

-- why a name can't be created, given whether the zone refuses it, and whether it is taken
abbrev pub reason_of : Bool → Bool → Option Reason
reason_of refused taken = if refused then Some Policy else in_use taken

abbrev pub contact_result : Facts → List ℕ → CheckResult
contact_result f name = record { name = name; reason = in_use (is_some (contact_seen f name)) }

abbrev pub domain_result : ZoneRules → Facts → RequestedName → CheckResult
domain_result zone f name = record {
  name = name_of name;
  reason = reason_of (domain_is_refused zone name) (is_some (domain_seen f (name_of name)));
}

abbrev pub host_result : ZoneRules → Facts → RequestedName → CheckResult
host_result zone f name = record {
  name = name_of name;
  reason = reason_of (host_is_refused zone name) (is_some (host_seen f (name_of name)));
}

-- ---- create

abbrev pub created_plain : ℕ → List ℕ → Created
created_plain t name = record { name = name; created = t; expires = None; charge = None }

abbrev pub created_domain : ℕ → ℕ → NewDomain → Created
created_domain charge t new = record {
  name = name_of new.name;
  created = t;
  expires = Some (capped (plus_years t new.years));
  charge = Some charge;
}

-- ---- renew, and the report on a restoration

abbrev pub renewed : ℕ → RequestedName → ℕ → Domain → Renewed
renewed charge name years d =
    record { name = name_of name; expires = capped (renewed_expiry years d); charge = charge }

-- of a domain that is seen in full
abbrev pub renewed_at : ℕ → RequestedName → ℕ → Facts → Option Renewed
renewed_at charge name years f = option_map (renewed charge name years) (option_and_then domain_in_full (domain_seen f (name_of name)))

-- ---- info of contacts and domains: the sponsor gets all; who presents the right secret all but
-- the secret; another the face

abbrev pub transfer_info : PolicyRules → Transfer → TransferInfo
transfer_info p t = record { transfer = t; requester = id_of p t.requester; losing_registrar = id_of p t.losing_registrar }

abbrev pub with_shown_link : Bool → ContactFace → ContactFace
with_shown_link linked face = record face { statuses = with_linked linked face.statuses }

abbrev pub contact_face_info : PolicyRules → Bool → ContactFace → ContactInfo
contact_face_info p linked face = record {
  face = with_shown_link linked face;
  sponsor = id_of p face.sponsor;
  hidden = None;
}

abbrev pub contact_hidden : PolicyRules → Option (List ℕ) → Contact → ContactHidden
contact_hidden p secret c = record { secret = secret; postal = c.postal; voice = c.voice; mail = c.mail; transfer = option_map (transfer_info p) c.transfer }

abbrev pub contact_full_info : PolicyRules → Bool → Option (List ℕ) → Contact → ContactInfo
contact_full_info p linked secret c = record (contact_face_info p linked (contact_face_of c)) {
  hidden = Some (contact_hidden p secret c);
}

abbrev pub contact_info : PolicyRules → ℕ → Option (List ℕ) → Bool → Seen Contact ContactFace
    → ContactInfo
contact_info p r secret linked (Full c) =
    if c.sponsor == r then contact_full_info p linked (Some c.secret) c
    else if authorizes secret c.secret then contact_full_info p linked None c
    else contact_face_info p linked (contact_face_of c)
contact_info p r secret linked (TransferParty face t) = contact_face_info p linked face
contact_info p r secret linked (Public face) = contact_face_info p linked face

abbrev pub contact_info_at : PolicyRules → ℕ → Option (List ℕ) → ContactFacts → Option ContactInfo
contact_info_at p r secret known = option_map (contact_info p r secret known.linked) known.seen

abbrev pub domain_face_info : PolicyRules → List (List ℕ) → DomainFace → DomainInfo
domain_face_info p subordinate face =
    record { face = face; sponsor = id_of p face.sponsor; subordinate = subordinate; hidden = None }

abbrev pub domain_hidden : PolicyRules → Option (List ℕ) → Domain → DomainHidden
domain_hidden p secret d = record { secret = secret; transfer = option_map (transfer_info p) d.transfer; deletion = d.deletion }

abbrev pub domain_full_info : PolicyRules → List (List ℕ) → Option (List ℕ) → FullDomain
    → DomainInfo
domain_full_info p subordinate secret known =
    record (domain_face_info p subordinate (face_of known.standing known.domain)) {
      hidden = Some (domain_hidden p secret known.domain);
    }

abbrev pub domain_info : PolicyRules → ℕ → Option (List ℕ) → List (List ℕ)
    → Seen FullDomain DomainFace → DomainInfo
domain_info p r secret subordinate (Full known) =
    if known.domain.sponsor == r then domain_full_info p subordinate (Some known.domain.secret) known
    else if authorizes secret known.domain.secret then domain_full_info p subordinate None known
    else domain_face_info p subordinate (face_of known.standing known.domain)
domain_info p r secret subordinate (TransferParty face t) = domain_face_info p subordinate face
domain_info p r secret subordinate (Public face) = domain_face_info p subordinate face

abbrev pub domain_info_at : PolicyRules → ℕ → Option (List ℕ) → DomainFacts → Option DomainInfo
domain_info_at p r secret known = option_map (domain_info p r secret known.subordinate) known.seen

-- ---- transfers

abbrev pub transferred : PolicyRules → List ℕ → Option ℕ → Transfer → Transferred
transferred p name charge x = record { name = name; transfer = transfer_info p x; charge = charge }

abbrev pub transferred_data : PolicyRules → List ℕ → Option ℕ → Option Transfer → Option Data
transferred_data p name charge after =
    option_map res_data.Transferred (option_map (transferred p name charge) after)

-- ---- info of hosts: all get all

abbrev pub host_info : PolicyRules → HostFacts → Host → HostInfo
host_info p known h = let sponsor : ℕ = unwrap_or (host_sponsor p.zone known h) 0 in record { face = host_face_of sponsor known.linked h; sponsor = id_of p sponsor }

abbrev pub host_info_at : PolicyRules → HostFacts → Option HostInfo
host_info_at p known = option_map (host_info p known) known.host

-- ---- the data of each command

abbrev pub response_data : PolicyRules → ℕ → ℕ → Request → Facts → Option Data
response_data p r t requests.Logout f = None
response_data p r t requests.Balance f = Some (res_data.Balance f.account.balance)
response_data p r t (requests.CheckContact names) f =
    Some (res_data.Checked (map (contact_result f) names))
response_data p r t (requests.CheckDomain names) f =
    Some (res_data.Checked (map (domain_result p.zone f) names))
response_data p r t (requests.CheckHost names) f =
    Some (res_data.Checked (map (host_result p.zone f) names))
response_data p r t (requests.InfoContact name secret) f =
    option_map res_data.Contact (option_and_then (contact_info_at p r secret) (contact_at f name))
response_data p r t (requests.InfoDomain name secret) f = option_map res_data.Domain (option_and_then (domain_info_at p r secret) (domain_at f (name_of name)))
response_data p r t (requests.InfoHost name) f =
    option_map res_data.Host (option_and_then (host_info_at p) (host_at f (name_of name)))
response_data p r t (requests.CreateContact new) f = Some (res_data.Created (created_plain t new.name))
response_data p r t (requests.CreateDomain new) f =
    Some (res_data.Created (created_domain (charge_of p t (requests.CreateDomain new) f) t new))
response_data p r t (requests.CreateHost new) f =
    Some (res_data.Created (created_plain t (name_of new.name)))
response_data p r t (requests.DeleteContact name) f = None
response_data p r t (requests.DeleteDomain name) f =
    option_map res_data.Deleted (option_map deleted (domain_at f (name_of name)))
response_data p r t (requests.DeleteHost name) f = None
response_data p r t (requests.UpdateContact update) f = None
response_data p r t (requests.UpdateDomain update) f = None
response_data p r t (requests.UpdateHost update) f = None
response_data p r t (requests.RenewDomain name expires years) f = option_map res_data.Renewed (renewed_at (charge_of p t (requests.RenewDomain name expires years) f) name years f)
response_data p r t (requests.RequestRestore name) f = None
response_data p r t (requests.ReportRestore name del_time res_time) f =
    let report : Request = requests.ReportRestore name del_time res_time in
    option_map res_data.Renewed (renewed_at (charge_of p t report f) name (years_charged t report f) f)
response_data p r t (requests.TransferContact name op secret) f =
    transferred_data p name None (option_and_then (contact_after p r t op) (contact_seen f name))
response_data p r t (requests.TransferDomain name op secret) f =
    let asked : Request = requests.TransferDomain name op secret in
    transferred_data p (name_of name) (charge_shown op (charge_of p t asked f)) (option_and_then (domain_after p r t op) (domain_seen f (name_of name)))
response_data p r t requests.PollRequest f =
    option_map res_data.Polled (option_map (polled f.queue.waiting) f.queue.oldest)
response_data p r t (requests.PollAck id) f = Some (res_data.Acked (left f.queue))
