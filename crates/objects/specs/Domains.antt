-- Domains (RFC 5731).
use Rattle.std.specs.Prelude.{ℕ, Bool, false, not, ◌&&◌, List, is_some, filter, length, ◌==◌}
use Rattle.calendar.specs.Moment.{plus_years, capped}
use Rattle.objects.specs.declared.status.Status.{Status}
use Rattle.objects.specs.declared.status.Status.TheVariants.{Inactive, Linked, Fine, PendingDelete, PendingTransfer}
use Rattle.objects.specs.declared.domain.Domain.{Domain}
use Rattle.objects.specs.declared.domain.DomainFace.{DomainFace}
use Rattle.objects.specs.declared.grace.Standing.{Standing}
use Rattle.objects.specs.Statuses.{all_statuses, has_status}
use Rattle.objects.specs.Transfers.{is_pending}

-- The moment to which a domain is registered: its years after its creation (RFC 5731, 2.5).
abbrev pub expiry : Domain → ℕ
expiry d = plus_years d.created d.years

-- as it is shown: a value that lies past the last moment, which no registry has, as the last moment
abbrev pub shown_expiry : Domain → ℕ
shown_expiry d = capped (expiry d)

abbrev pub is_empty : {A : Type 0} → List A → Bool
is_empty xs = length xs == 0

-- A domain shows the statuses that were set and those that follow: inactive without hosts,
-- pendingDelete once deleted, pendingTransfer, and ok where there is no other.
abbrev pub shows : Domain → Status → Bool
shows d Inactive = is_empty d.links.hosts
shows d Linked = false
shows d Fine = is_empty d.statuses && not (is_empty d.links.hosts) && not (is_some d.deletion) && not (is_pending d.transfer)
shows d PendingDelete = is_some d.deletion
shows d PendingTransfer = is_pending d.transfer
shows d status = has_status d.statuses status

abbrev pub shown : Domain → List Status
shown d = filter (shows d) all_statuses

-- what everyone may know of a domain in this state
abbrev pub face_of : Standing → Domain → DomainFace
face_of standing d = record {
  name = d.name;
  roid = d.roid;
  sponsor = d.sponsor;
  created = d.created;
  expires = shown_expiry d;
  transferred = d.transferred;
  updated = d.updated;
  statuses = shown d;
  standing = standing;
  links = d.links;
}
