-- The conditions on which commands are refused.
use Rattle.std.specs.Prelude.{ℕ, Bool, false, not, ◌&&◌, ◌||◌, ◌==◌, ◌+◌, ◌/◌, nat_lt, pos, int_lt, List, Option, Some, None, is_some, is_none, option_and_then, option_map, length}
use Rattle.std.specs.List.{list_any, slice_get}
use Rattle.std.specs.Str.{bytes_eq}
use Rattle.calendar.specs.Calendar.{date_of}
use Rattle.calendar.specs.Moment.{plus_years}
use Rattle.calendar.specs.Text.{date_text}
use Rattle.facts.specs.declared.facts.Facts.{Facts}
use Rattle.facts.specs.declared.facts.DomainFacts.{DomainFacts}
use Rattle.facts.specs.declared.facts.HostFacts.{HostFacts}
use Rattle.facts.specs.Facts.{contact_at, contact_seen, domain_at, domain_seen, host_at, host_sponsor, is_inside, new_name_seen, or_else}
use Rattle.facts.specs.Lists.{adds_what_is_there, has_twice, is_over, itself, kept, removes_what_is_not}
use Rattle.names.specs.RequestedName.{RequestedName, name_of}
use Rattle.names.specs.Zone.{ZoneRules, keeps_domain, keeps_host}
use Rattle.objects.specs.declared.contact.Contact.{Contact}
use Rattle.objects.specs.declared.contact.ContactFace.{ContactFace}
use Rattle.objects.specs.declared.domain.Domain.{Domain}
use Rattle.objects.specs.declared.domain.DomainFace.{DomainFace}
use Rattle.objects.specs.declared.domain.FullDomain.{FullDomain}
use Rattle.objects.specs.declared.grace.Phase.{Phase}
use Rattle.objects.specs.declared.host.Host.{Host}
use Rattle.objects.specs.declared.sight.Seen.{Seen}
use Rattle.objects.specs.declared.sight.Seen.TheVariants.{Full, TransferParty, Public}
use Rattle.objects.specs.declared.status.Status.{Status}
use Rattle.objects.specs.declared.status.Status.TheVariants.{PendingTransfer}
use Rattle.objects.specs.Contacts.{contact_shows}
use Rattle.objects.specs.Domains.{is_empty, shown_expiry, shows}
use Rattle.objects.specs.Graces.{is_phase}
use Rattle.objects.specs.Hosts.{host_shows}
use Rattle.objects.specs.Sight.{authorizes}
use Rattle.objects.specs.Statuses.{has_status}
use Rattle.objects.specs.Transfers.{is_pending, names}
use Rattle.objects.specs.declared.transfer.Transfer.{Transfer}
use Rattle.lifecycle.specs.Transfers.{is_locked}
use Rattle.objects.specs.StatusTexts.{status_text}
use Rattle.policy.specs.Rules.{PolicyRules}
use Rattle.protocol.specs.declared.command.Action.{Action}
use Rattle.protocol.specs.declared.command.Action.TheVariants.{Balance, Check, Info, Create, Delete, Update, Renew, RequestRestore, ReportRestore, RequestTransfer, QueryTransfer, ApproveTransfer, RejectTransfer, CancelTransfer, PollRequest, PollAck, Logout}
use Rattle.protocol.specs.declared.command.Request.{Request}
use Rattle.protocol.specs.declared.lists.TheConstants.{MOST_ADDRESSES, MOST_CONTACTS, MOST_HOSTS}
use Rattle.protocol.specs.Requests.{GivenLists, asks_of, contacts_asked, domains_asked, holds_of, hosts_asked}
use Rattle.rules.specs.declared.rules.Condition.{Condition}
use Rattle.rules.specs.declared.rules.Condition.TheVariants.{NameIsRefused, ListRepeats, IsThere, IsMissing, ReferenceIsMissing, NewNameIsTaken, SuperordinateIsMissing, IsAnothers, SuperordinateIsAnothers, SecretIsWrong, Shows, StillShows, SuperordinateIsDeleted, IsLinked, HasSubordinates, AddsWhatIsThere, RemovesWhatIsNot, LeavesTooMany, LeavesAddressesOutside, IsAtHoldingLimit, PassesTenYears, ExpiresOtherwise, IsNotIn, ReportDiffers, IsNotOldest, LacksMoney, SecretIsNotRight, IsStranger, StrangersSecretIsWrong, IsNotRequester, HasNoTransfer, IsPending, IsNotPending, IsOwn, IsLocked}
use Rattle.rules.specs.Charges.{charge_of}

-- ---- the object that a request is about: of the three at most one is there

abbrev pub the_contact : Request → Facts → Option (Seen Contact ContactFace)
the_contact q f = option_and_then (contact_seen f) (slice_get (contacts_asked q) 0)

abbrev pub the_domain : Request → Facts → Option (Seen FullDomain DomainFace)
the_domain q f =
    option_and_then (λ name. domain_seen f (name_of name)) (slice_get (domains_asked q) 0)

abbrev pub host_known : Request → Facts → Option HostFacts
host_known q f = option_and_then (λ name. host_at f (name_of name)) (slice_get (hosts_asked q) 0)

abbrev pub the_host : Request → Facts → Option Host
the_host q f = option_and_then (λ known. known.host) (host_known q f)

abbrev pub is_there : Request → Facts → Bool
is_there q f = is_some (the_contact q f) || (is_some (the_domain q f) || is_some (the_host q f))

-- the object, where it is seen in full
abbrev pub full : {O F : Type 0} → Seen O F → Option O
full (Full o) = Some o
full _ = None

abbrev pub full_contact : Request → Facts → Option Contact
full_contact q f = option_and_then full (the_contact q f)

abbrev pub domain_in_full : Seen FullDomain DomainFace → Option Domain
domain_in_full seen = option_map (λ (known : FullDomain). known.domain) (full seen)

abbrev pub full_domain : Request → Facts → Option Domain
full_domain q f = option_and_then domain_in_full (the_domain q f)

-- ---- the names and lists of a request

-- the zone doesn't keep such domains, or such hosts
abbrev pub domain_is_refused : ZoneRules → RequestedName → Bool
domain_is_refused zone name = not (keeps_domain zone (name_of name))

abbrev pub host_is_refused : ZoneRules → RequestedName → Bool
host_is_refused zone name = not (keeps_host zone (name_of name))

abbrev pub any_host_refused : ZoneRules → List RequestedName → Bool
any_host_refused zone hosts = list_any (host_is_refused zone) hosts

-- the zone refuses a name that is given
abbrev pub name_is_refused : ZoneRules → Request → Bool
name_is_refused zone q =
    list_any (domain_is_refused zone) (domains_asked q)
    || (any_host_refused zone (hosts_asked q) || (holds_of (host_is_refused zone) (asks_of q).new_host
    || (any_host_refused zone (asks_of q).adds.hosts || any_host_refused zone (asks_of q).removes.hosts)))

-- one of the lists names one thing twice
abbrev pub list_repeats : GivenLists → Bool
list_repeats lists =
    has_twice name_of lists.hosts || (has_twice itself lists.admin || (has_twice itself lists.tech
    || (has_twice itself lists.addresses || has_twice status_text lists.statuses)))

-- ---- who sponsors what is seen, and who may see it

abbrev pub contact_sponsor : Contact → ℕ
contact_sponsor c = c.sponsor

abbrev pub contact_secret : Contact → List ℕ
contact_secret c = c.secret

abbrev pub domain_sponsor : FullDomain → ℕ
domain_sponsor known = known.domain.sponsor

abbrev pub domain_secret : FullDomain → List ℕ
domain_secret known = known.domain.secret

-- the registrar sponsors what it sees
abbrev pub is_own : {O F : Type 0} → (O → ℕ) → ℕ → Seen O F → Bool
is_own sponsor r (Full o) = sponsor o == r
is_own sponsor r _ = false

-- another sponsors it
abbrev pub is_anothers : {O F : Type 0} → (O → ℕ) → ℕ → Option (Seen O F) → Bool
is_anothers sponsor r seen = holds_of (λ it. not (is_own sponsor r it)) seen

abbrev pub is_registrar : ℕ → Option ℕ → Bool
is_registrar r sponsor = holds_of (λ it. it == r) sponsor

-- another sponsors the host
abbrev pub host_is_anothers : ZoneRules → ℕ → Option HostFacts → Bool
host_is_anothers zone r known =
    holds_of (λ it. holds_of (λ h. not (is_registrar r (host_sponsor zone it h))) it.host) known

-- what is seen opens with the secret: who presents the right one sees all
abbrev pub is_authorized : {O F : Type 0} → (O → List ℕ) → Option (List ℕ) → Seen O F → Bool
is_authorized secret_of secret (Full o) = authorizes secret (secret_of o)
is_authorized secret_of secret _ = false

-- a secret is presented by another than the sponsor, and isn't right
abbrev pub presents_wrong : {O F : Type 0} → (O → ℕ) → (O → List ℕ) → ℕ → Option (List ℕ)
    → Option (Seen O F) → Bool
presents_wrong sponsor secret_of r None seen = false
presents_wrong sponsor secret_of r (Some secret) None = false
presents_wrong sponsor secret_of r (Some secret) (Some seen) =
    not (is_own sponsor r seen) && not (is_authorized secret_of (Some secret) seen)

abbrev pub is_of_another : ZoneRules → ℕ → Request → Facts → Bool
is_of_another zone r q f =
    is_anothers contact_sponsor r (the_contact q f) || (is_anothers domain_sponsor r (the_domain q f)
    || host_is_anothers zone r (host_known q f))

abbrev pub secret_is_wrong : ℕ → Request → Facts → Bool
secret_is_wrong r q f =
    presents_wrong contact_sponsor contact_secret r (asks_of q).secret (the_contact q f)
    || presents_wrong domain_sponsor domain_secret r (asks_of q).secret (the_domain q f)

-- ---- the superordinate domain of a host that is to have a name (RFC 5732, 3.2.1)

-- what is known at that name: at the name of a new host, or at a host's new name
abbrev pub known_by : Action → Option HostFacts → Option HostFacts → Option HostFacts
known_by Create given new = given
known_by Update given new = new
known_by Logout given new = None
known_by Balance given new = None
known_by Check given new = None
known_by Info given new = None
known_by Delete given new = None
known_by Renew given new = None
known_by RequestRestore given new = None
known_by ReportRestore given new = None
known_by RequestTransfer given new = None
known_by QueryTransfer given new = None
known_by ApproveTransfer given new = None
known_by RejectTransfer given new = None
known_by CancelTransfer given new = None
known_by PollRequest given new = None
known_by PollAck given new = None

abbrev pub host_to_be : Request → Facts → Option HostFacts
host_to_be q f = known_by (asks_of q).action (host_known q f) f.at_new_name

abbrev pub has_no_superordinate : ZoneRules → HostFacts → Bool
has_no_superordinate zone known = is_inside zone known.name && is_none known.superordinate

abbrev pub superordinate_is_anothers : ZoneRules → ℕ → HostFacts → Bool
superordinate_is_anothers zone r known =
    is_inside zone known.name && holds_of (λ above. not (above.sponsor == r)) known.superordinate

abbrev pub superordinate_is_deleted : ZoneRules → HostFacts → Bool
superordinate_is_deleted zone known =
    is_inside zone known.name && holds_of (λ above. above.is_deleted) known.superordinate

-- ---- statuses that are shown

unfoldable pub contact_seen_shows : Seen Contact ContactFace → Status → Bool
contact_seen_shows (Full c) status = contact_shows false c status
contact_seen_shows (TransferParty face t) status = has_status face.statuses status
contact_seen_shows (Public face) status = has_status face.statuses status

unfoldable pub domain_seen_shows : Seen FullDomain DomainFace → Status → Bool
domain_seen_shows (Full known) status = shows known.domain status
domain_seen_shows (TransferParty face t) status = has_status face.statuses status
domain_seen_shows (Public face) status = has_status face.statuses status

unfoldable pub host_seen_shows : Host → Status → Bool
host_seen_shows h status = host_shows false h status

-- it shows the status
abbrev pub is_shown : {S : Type 0} → (S → Status → Bool) → Status → Option S → Bool
is_shown shown status seen = holds_of (λ it. shown it status) seen

abbrev pub shows_status : Status → Request → Facts → Bool
shows_status status q f =
    is_shown contact_seen_shows status (the_contact q f) || (is_shown domain_seen_shows status (the_domain q f)
    || is_shown host_seen_shows status (the_host q f))

-- the object shows the status, and the request doesn't take it away
abbrev pub still_shows : Status → Request → Facts → Bool
still_shows status q f =
    shows_status status q f && not (has_status (asks_of q).removes.statuses status)

-- ---- links

abbrev pub contact_is_linked : Request → Facts → Bool
contact_is_linked q f = holds_of (λ known. known.linked) (option_and_then (contact_at f) (slice_get (contacts_asked q) 0))

abbrev pub host_is_linked : Request → Facts → Bool
host_is_linked q f = holds_of (λ known. known.linked) (host_known q f)

-- a domain names the object
abbrev pub is_linked : Request → Facts → Bool
is_linked q f = contact_is_linked q f || host_is_linked q f

-- ---- the hosts below a domain (RFC 5731, 3.2.2)

abbrev pub domain_known : Request → Facts → Option DomainFacts
domain_known q f =
    option_and_then (λ name. domain_at f (name_of name)) (slice_get (domains_asked q) 0)

abbrev pub has_subordinates : Request → Facts → Bool
has_subordinates q f = holds_of (λ known. not (is_empty known.subordinate)) (domain_known q f)

-- ---- what is added and removed, against what is there

-- a status of the list is set, or one isn't
abbrev pub any_set : List Status → List Status → Bool
any_set old statuses = list_any (has_status old) statuses

abbrev pub any_unset : List Status → List Status → Bool
any_unset old statuses = list_any (λ status. not (has_status old status)) statuses

abbrev pub contact_has : GivenLists → Contact → Bool
contact_has lists c = any_set c.statuses lists.statuses

abbrev pub domain_has : GivenLists → Domain → Bool
domain_has lists d =
    adds_what_is_there name_of d.links.hosts lists.hosts || (adds_what_is_there itself d.links.admin lists.admin
    || (adds_what_is_there itself d.links.tech lists.tech || any_set d.statuses lists.statuses))

abbrev pub host_has : GivenLists → Host → Bool
host_has lists h =
    adds_what_is_there itself h.addresses lists.addresses || any_set h.statuses lists.statuses

-- something is added that is there
abbrev pub adds_known : Request → Facts → Bool
adds_known q f =
    holds_of (contact_has (asks_of q).adds) (full_contact q f) || (holds_of (domain_has (asks_of q).adds) (full_domain q f)
    || holds_of (host_has (asks_of q).adds) (the_host q f))

abbrev pub contact_lacks : GivenLists → Contact → Bool
contact_lacks lists c = any_unset c.statuses lists.statuses

abbrev pub domain_lacks : GivenLists → Domain → Bool
domain_lacks lists d =
    removes_what_is_not name_of d.links.hosts lists.hosts || (removes_what_is_not itself d.links.admin lists.admin
    || (removes_what_is_not itself d.links.tech lists.tech || any_unset d.statuses lists.statuses))

abbrev pub host_lacks : GivenLists → Host → Bool
host_lacks lists h =
    removes_what_is_not itself h.addresses lists.addresses || any_unset h.statuses lists.statuses

-- something is removed that isn't there
abbrev pub removes_unknown : Request → Facts → Bool
removes_unknown q f =
    holds_of (contact_lacks (asks_of q).removes) (full_contact q f) || (holds_of (domain_lacks (asks_of q).removes) (full_domain q f)
    || holds_of (host_lacks (asks_of q).removes) (the_host q f))

abbrev pub domain_is_over : GivenLists → GivenLists → Domain → Bool
domain_is_over removed added d =
    is_over name_of MOST_HOSTS d.links.hosts removed.hosts added.hosts
    || (is_over itself MOST_CONTACTS d.links.admin removed.admin added.admin
    || is_over itself MOST_CONTACTS d.links.tech removed.tech added.tech)

abbrev pub host_is_over : GivenLists → GivenLists → Host → Bool
host_is_over removed added h =
    is_over itself MOST_ADDRESSES h.addresses removed.addresses added.addresses

-- one of the lists alone is longer than an object's may be
abbrev pub are_too_long : GivenLists → Bool
are_too_long lists =
    nat_lt MOST_HOSTS (length lists.hosts)
    || (nat_lt MOST_CONTACTS (length lists.admin)
    || (nat_lt MOST_CONTACTS (length lists.tech)
    || nat_lt MOST_ADDRESSES (length lists.addresses)))

-- a list has more than its limit afterwards
abbrev pub leaves_too_many : Request → Facts → Bool
leaves_too_many q f =
    are_too_long (asks_of q).adds
    || (holds_of (domain_is_over (asks_of q).removes (asks_of q).adds) (full_domain q f)
    || holds_of (host_is_over (asks_of q).removes (asks_of q).adds) (the_host q f))

-- ---- addresses (RFC 5732, 2.5)

-- the addresses of a host that aren't removed
abbrev pub addresses_kept : List (List ℕ) → Option Host → ℕ
addresses_kept removed None = 0
addresses_kept removed (Some h) = length (kept itself h.addresses removed)

abbrev pub has_addresses_after : Request → Facts → Bool
has_addresses_after q f = not (addresses_kept (asks_of q).removes.addresses (the_host q f) + length (asks_of q).adds.addresses == 0)

-- the name that the host has afterwards
abbrev pub host_name_after : Request → Option RequestedName
host_name_after q = or_else (asks_of q).new_host (slice_get (hosts_asked q) 0)

-- a host outside the zone has no addresses here
abbrev pub leaves_addresses_outside : ZoneRules → Request → Facts → Bool
leaves_addresses_outside zone q f = holds_of (λ name. not (is_inside zone (name_of name))) (host_name_after q) && has_addresses_after q f

-- ---- renewal (RFC 5731, 3.2.3)

-- the moment to which a domain is registered once it is renewed for so many years
abbrev pub renewed_expiry : ℕ → Domain → ℕ
renewed_expiry years d = plus_years d.created (d.years + years)

-- the domain would be registered for more than ten years from the moment on
abbrev pub passes_ten_years : ℕ → Request → Facts → Bool
passes_ten_years t q f =
    holds_of (λ d. nat_lt (plus_years t 10) (renewed_expiry (asks_of q).years d)) (full_domain q f)

-- the date isn't that on which the domain is shown to expire
abbrev pub is_another_date : Domain → List ℕ → Bool
is_another_date d date = not (bytes_eq date (date_text (date_of (shown_expiry d / 86_400))))

-- so that a renewal that is sent twice doesn't renew twice
abbrev pub expires_otherwise : Request → Facts → Bool
expires_otherwise q f =
    holds_of (λ d. holds_of (is_another_date d) (asks_of q).expires) (full_domain q f)

-- ---- restoration (RFC 3915, 3.1 and 4.2.5)

abbrev pub phase_seen : Seen FullDomain DomainFace → Phase
phase_seen (Full known) = known.standing.phase
phase_seen (TransferParty face t) = face.standing.phase
phase_seen (Public face) = face.standing.phase

-- the deletion of the domain has come to the phase
abbrev pub is_in : Phase → Request → Facts → Bool
is_in phase q f = holds_of (λ seen. is_phase (phase_seen seen) phase) (the_domain q f)

-- a moment is reported, and isn't the one that is kept
abbrev pub is_another_moment : Option ℕ → Option ℕ → Bool
is_another_moment kept reported = holds_of (λ m. not (holds_of (λ k. k == m) kept)) reported

abbrev pub deleted_at : Domain → Option ℕ
deleted_at d = option_map (λ x. x.deleted) d.deletion

abbrev pub restore_requested_at : Domain → Option ℕ
restore_requested_at d = option_and_then (λ x. x.restore_requested) d.deletion

abbrev pub is_another_report : Option ℕ → Option ℕ → Domain → Bool
is_another_report del_time res_time d =
    is_another_moment (deleted_at d) del_time || is_another_moment (restore_requested_at d) res_time

-- the report isn't on this deletion, or not on the last request to restore from it
abbrev pub report_differs : Request → Facts → Bool
report_differs q f =
    holds_of (is_another_report (asks_of q).del_time (asks_of q).res_time) (full_domain q f)

-- ---- transfers (RFC 5730, 2.9.3.4)

abbrev pub contact_transfer : Contact → Option Transfer
contact_transfer c = c.transfer

abbrev pub domain_transfer : FullDomain → Option Transfer
domain_transfer known = known.domain.transfer

-- the last transfer of what is seen, as far as it is seen
abbrev pub last_seen : {O F : Type 0} → (O → Option Transfer) → Seen O F → Option Transfer
last_seen transfer_of (Full o) = transfer_of o
last_seen transfer_of (TransferParty face transfer) = Some transfer
last_seen transfer_of (Public face) = None

abbrev pub the_transfer : Request → Facts → Option Transfer
the_transfer q f = or_else (option_and_then (last_seen contact_transfer) (the_contact q f)) (option_and_then (last_seen domain_transfer) (the_domain q f))

-- the registrar sponsors the object
abbrev pub sponsors : ℕ → Request → Facts → Bool
sponsors r q f = holds_of (is_own contact_sponsor r) (the_contact q f) || holds_of (is_own domain_sponsor r) (the_domain q f)

-- it sponsors the object, or the last transfer names it
abbrev pub is_involved : ℕ → Request → Facts → Bool
is_involved r q f = sponsors r q f || holds_of (names r) (the_transfer q f)

-- the object's own secret is presented (RFC 5731, 2.6; RFC 5733, 2.8)
abbrev pub presents_secret : Request → Facts → Bool
presents_secret q f =
    holds_of (is_authorized contact_secret (asks_of q).secret) (the_contact q f)
    || holds_of (is_authorized domain_secret (asks_of q).secret) (the_domain q f)

-- who has no part in the object and presents no secret, or another than its own
abbrev pub is_stranger : ℕ → Request → Facts → Bool
is_stranger r q f = not (is_involved r q f) && is_none (asks_of q).secret

abbrev pub strangers_secret_is_wrong : ℕ → Request → Facts → Bool
strangers_secret_is_wrong r q f =
    not (is_involved r q f) && (is_some (asks_of q).secret && not (presents_secret q f))

-- the registrar asked for the last transfer
abbrev pub is_requester : ℕ → Request → Facts → Bool
is_requester r q f = holds_of (λ transfer. transfer.requester == r) (the_transfer q f)

abbrev pub transfer_is_pending : Request → Facts → Bool
transfer_is_pending q f = is_pending (the_transfer q f)

-- the domain can't be transferred yet (RFC 5731, 3.2.4)
abbrev pub domain_is_locked : PolicyRules → ℕ → Request → Facts → Bool
domain_is_locked p t q f = holds_of (is_locked p t) (full_domain q f)

-- ---- messages (RFC 5730, 2.9.2.3)

-- the oldest message has the identifier that is acknowledged, if one is
abbrev pub is_oldest : Request → Facts → Bool
is_oldest q f =
    holds_of (λ id. holds_of (λ oldest. bytes_eq oldest.id id) f.queue.oldest) (asks_of q).message

-- ---- money (RFC 5730, 3, code 2104)

-- the account has less than what is charged; who is charged nothing may be in debt
abbrev pub lacks_money : PolicyRules → ℕ → Request → Facts → Bool
lacks_money p t q f =
    nat_lt 0 (charge_of p t q f) && int_lt f.account.balance (pos (charge_of p t q f))

-- ---- each condition

-- a condition holds of a registrar's request at a moment, by the facts
abbrev pub holds : PolicyRules → ℕ → ℕ → Request → Facts → Condition → Bool
holds p r t q f NameIsRefused = name_is_refused p.zone q
holds p r t q f ListRepeats = list_repeats (asks_of q).adds || list_repeats (asks_of q).removes
holds p r t q f IsThere = is_there q f
holds p r t q f IsMissing = not (is_there q f)
holds p r t q f ReferenceIsMissing = f.reference_missing
holds p r t q f NewNameIsTaken = is_some (new_name_seen f)
holds p r t q f SuperordinateIsMissing = holds_of (has_no_superordinate p.zone) (host_to_be q f)
holds p r t q f IsAnothers = is_of_another p.zone r q f
holds p r t q f SuperordinateIsAnothers =
    holds_of (superordinate_is_anothers p.zone r) (host_to_be q f)
holds p r t q f SecretIsWrong = secret_is_wrong r q f
holds p r t q f (Shows status) = shows_status status q f
holds p r t q f (StillShows status) = still_shows status q f
holds p r t q f SuperordinateIsDeleted = holds_of (superordinate_is_deleted p.zone) (host_to_be q f)
holds p r t q f IsLinked = is_linked q f
holds p r t q f HasSubordinates = has_subordinates q f
holds p r t q f AddsWhatIsThere = adds_known q f
holds p r t q f RemovesWhatIsNot = removes_unknown q f
holds p r t q f LeavesTooMany = leaves_too_many q f
holds p r t q f LeavesAddressesOutside = leaves_addresses_outside p.zone q f
holds p r t q f IsAtHoldingLimit = f.holding_limit_reached
holds p r t q f PassesTenYears = passes_ten_years t q f
holds p r t q f ExpiresOtherwise = expires_otherwise q f
holds p r t q f (IsNotIn phase) = not (is_in phase q f)
holds p r t q f ReportDiffers = report_differs q f
holds p r t q f IsNotOldest = not (is_oldest q f)
holds p r t q f LacksMoney = lacks_money p t q f
holds p r t q f SecretIsNotRight = not (presents_secret q f)
holds p r t q f IsStranger = is_stranger r q f
holds p r t q f StrangersSecretIsWrong = strangers_secret_is_wrong r q f
holds p r t q f IsNotRequester = not (is_requester r q f)
holds p r t q f HasNoTransfer = is_none (the_transfer q f)
holds p r t q f IsPending = shows_status PendingTransfer q f
holds p r t q f IsNotPending = not (transfer_is_pending q f)
holds p r t q f IsOwn = sponsors r q f
holds p r t q f IsLocked = domain_is_locked p t q f
