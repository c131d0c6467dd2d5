-- The shape of each object: what its name is, of what its lists are made, and how far its years go.
use Rattle.std.specs.Prelude.{◌≡◌, ℕ, ◌≤◌, ◌<◌, true, List, length, Some}
use Rattle.std.specs.Cmp.Lexicographic.{slice_cmp}
use Rattle.std.specs.FinMap.{get}
use Rattle.std.specs.List.Sorted.{IsStrictlySortedBy}
use Rattle.std.specs.Ordering.{nat_cmp}
use Rattle.names.specs.Canonical.{IsCanonical}
use Rattle.names.specs.Zone.{ZoneRules, keeps_domain, keeps_host}
use Rattle.objects.specs.declared.domain.Domain.{Domain}
use Rattle.objects.specs.declared.domain.Links.{Links}
use Rattle.objects.specs.declared.host.Host.{Host}
use Rattle.objects.specs.Domains.{expiry}
use Rattle.protocol.specs.declared.lists.TheConstants.{MOST_ADDRESSES, MOST_CONTACTS, MOST_HOSTS}
use Rattle.model.specs.Registry.{Registry}

-- the name of a domain is canonical, and the zone keeps it
pub record IsDomainName (zone : ZoneRules) (name : List ℕ) : Type 0 where
  pub canonical : IsCanonical name
  pub kept : keeps_domain zone name ≡ true

-- and so is the name of a host
pub record IsHostName (zone : ZoneRules) (name : List ℕ) : Type 0 where
  pub canonical : IsCanonical name
  pub kept : keeps_host zone name ≡ true

-- texts in the order of their bytes, of which none comes twice
abbrev pub IsOrderedSet : List (List ℕ) → Type 0
IsOrderedSet texts = IsStrictlySortedBy (slice_cmp nat_cmp) texts

-- no more of them than so many
abbrev pub IsSetWithin : ℕ → List (List ℕ) → Type 0
IsSetWithin most texts = IsOrderedSet texts × (length texts ≤ most)

-- a domain names a contact or a host once in each of its lists, and no more than it may (RFC 5731, 1.1)
pub record AreSetsWithin (links : Links) : Type 0 where
  pub admin : IsSetWithin MOST_CONTACTS links.admin
  pub tech : IsSetWithin MOST_CONTACTS links.tech
  pub hosts : IsSetWithin MOST_HOSTS links.hosts

-- 2120-01-01T00:00:00Z
abbrev pub end_of_expiries : ℕ
end_of_expiries = 4_733_510_400

-- a domain expires before 2120, by the calendar's own sum of its years
pub record IsShaped (zone : ZoneRules) (d : Domain) : Type 0 where
  pub name : IsDomainName zone d.name
  pub links : AreSetsWithin d.links
  pub expires : expiry d < end_of_expiries

-- a host has each of its addresses once, and no more than it may (RFC 5732, 1.1)
pub record IsShapedHost (zone : ZoneRules) (h : Host) : Type 0 where
  pub name : IsHostName zone h.name
  pub addresses : IsSetWithin MOST_ADDRESSES h.addresses

-- the shapes of all objects
pub record HasShapes (zone : ZoneRules) (s : Registry) : Type 0 where
  pub domains : (name : List ℕ) (d : Domain) → get s.domains name ≡ Some d → IsShaped zone d
  pub hosts : (name : List ℕ) (h : Host) → get s.hosts name ≡ Some h → IsShapedHost zone h
