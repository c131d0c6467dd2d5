-- What a zone has of a registry: the name servers of its domains (RFC 1035, 3.3.11), and the addresses of those
-- that lie in the zone itself (RFC 1034, 4.2.1).
use Rattle.std.specs.Prelude.{ℕ, Bool, List, filter, fold, is_some, map, Option, option_map}
use Rattle.std.specs.Cmp.Lexicographic.{slice_cmp}
use Rattle.std.specs.FinMap.{FinMap, empty, get, insert, keys, values}
use Rattle.std.specs.List.{filter_map, flat_map}
use Rattle.std.specs.Ordering.{nat_cmp}
use Rattle.model.specs.Registry.{Registry}
use Rattle.names.specs.Zone.{ZoneRules, superordinate_of}
use Rattle.objects.specs.declared.zone.Delegation.{Delegation}
use Rattle.objects.specs.declared.zone.Glue.{Glue}
use Rattle.objects.specs.declared.zone.ZoneData.{ZoneData}
use Rattle.objects.specs.Delegations.{delegation_of}

-- of every domain, in the order of their names
abbrev pub delegations : Registry → List Delegation
delegations s = map delegation_of (values s.domains)

-- ---- the hosts that need glue

-- the host lies in the zone
abbrev pub is_in_zone : ZoneRules → List ℕ → Bool
is_in_zone zone host = is_some (superordinate_of zone host)

abbrev pub hosts_in_zone : ZoneRules → Delegation → List (List ℕ)
hosts_in_zone zone d = filter (is_in_zone zone) d.hosts

-- names in their order, each once
abbrev pub HostNames : Type 0
HostNames = FinMap (slice_cmp nat_cmp) (Unit {0})

abbrev pub with_name : HostNames → List ℕ → HostNames
with_name names name = insert names name tt

-- the hosts in the zone that are name servers of a domain
abbrev pub own_hosts : ZoneRules → List Delegation → HostNames
own_hosts zone ds = fold with_name empty (flat_map (hosts_in_zone zone) ds)

-- ---- the data of a zone

abbrev pub host_addresses_at : Registry → List ℕ → Option (List (List ℕ))
host_addresses_at s name = option_map (λ h. h.addresses) (get s.hosts name)

abbrev pub glue_at : Registry → List ℕ → Option Glue
glue_at s name = option_map (λ addresses. record { host = name; addresses = addresses }) (host_addresses_at s name)

-- of these hosts, in the order of their names
abbrev pub glue_of : Registry → HostNames → List Glue
glue_of s names = filter_map (glue_at s) (keys names)

-- at the registry's clock
abbrev pub zone_data : ZoneRules → Registry → ZoneData
zone_data zone s = record {
  moment = s.clock;
  delegations = delegations s;
  glue = glue_of s (own_hosts zone (delegations s));
}
