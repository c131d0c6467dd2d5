-- What a zone has of a domain.
use Rattle.std.specs.Prelude.{ℕ, Bool, not, ◌&&◌, List, [], if◌then◌else◌}
use Rattle.objects.specs.declared.domain.Domain.{Domain}
use Rattle.objects.specs.declared.status.Status.TheVariants.{ClientHold, PendingDelete, ServerHold}
use Rattle.objects.specs.declared.zone.Delegation.{Delegation}
use Rattle.objects.specs.Domains.{shows}

-- a domain is served that shows no hold and isn't deleted (RFC 5731, 2.3)
abbrev pub is_served : Domain → Bool
is_served d = not (shows d ClientHold) && not (shows d ServerHold) && not (shows d PendingDelete)

abbrev pub served_hosts : Domain → List (List ℕ)
served_hosts d = if is_served d then d.links.hosts else []

abbrev pub delegation_of : Domain → Delegation
delegation_of d = record { name = d.name; hosts = served_hosts d }
