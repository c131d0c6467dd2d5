-- Hosts (RFC 5732).
use Rattle.std.specs.Prelude.{ℕ, ◌-◌, Bool, false, ◌&&◌, ◌==◌, nat_eq, nat_lt, List, length, filter, slice_index}
use Rattle.std.specs.List.{ends_with}
use Rattle.objects.specs.declared.host.Host.{Host}
use Rattle.objects.specs.declared.host.HostFace.{HostFace}
use Rattle.objects.specs.declared.status.Status.{Status}
use Rattle.objects.specs.declared.status.Status.TheVariants.{Inactive, Linked, Fine, PendingDelete, PendingTransfer}
use Rattle.objects.specs.Domains.{is_empty}
use Rattle.objects.specs.Statuses.{all_statuses, has_status}

-- a host is subordinate to a domain where its name ends in a dot and the domain's (RFC 5732, 1.1)
abbrev pub is_below : List ℕ → List ℕ → Bool
is_below domain host =
    nat_lt (length domain) (length host) && ends_with nat_eq host domain
    && (slice_index host (length host - length domain - 1) == 46)

-- a host shows the statuses that were set, linked while a domain names it, and ok where there is none
-- but linked
abbrev pub host_shows : Bool → Host → Status → Bool
host_shows linked h Inactive = false
host_shows linked h Linked = linked
host_shows linked h Fine = is_empty h.statuses
host_shows linked h PendingDelete = false
host_shows linked h PendingTransfer = false
host_shows linked h status = has_status h.statuses status

abbrev pub host_shown : Bool → Host → List Status
host_shown linked h = filter (host_shows linked h) all_statuses

-- what everyone may know of a host, of this sponsor
abbrev pub host_face_of : ℕ → Bool → Host → HostFace
host_face_of sponsor linked h = record {
  name = h.name;
  roid = h.roid;
  sponsor = sponsor;
  created = h.created;
  updated = h.updated;
  statuses = host_shown linked h;
  addresses = h.addresses;
}
