-- What everybody may look up of a registry: by RDAP (RFC 9083, 5.1 to 5.3), and in the zone (RFC
-- 1035, 5.1).
use Rattle.std.specs.Prelude.{◌≡◌, ℕ}
use Rattle.std.specs.Cmp.Lexicographic.{slice_cmp}
use Rattle.std.specs.FinMap.{FinMap}
use Rattle.std.specs.Ordering.{nat_cmp}
use Rattle.basis.specs.Maps.{map_values}
use Rattle.model.specs.Registry.{Registry}
use Rattle.model.specs.Standing.{standing_of}
use Rattle.objects.specs.declared.contact.ContactFace.{ContactFace}
use Rattle.objects.specs.declared.domain.DomainFace.{DomainFace}
use Rattle.objects.specs.declared.host.Host.{Host}
use Rattle.objects.specs.Contacts.{contact_face_of}
use Rattle.objects.specs.Domains.{face_of}
use Rattle.policy.specs.Rules.{PolicyRules}

-- The clock, the faces of contacts and domains, and the hosts, which have no hidden fields. The
-- sponsors of hosts in the zone, and what is linked, are read off the faces of domains.
pub record PublicPart : Type 0 where
  pub clock : ℕ
  pub contacts : FinMap (slice_cmp nat_cmp) ContactFace
  pub hosts : FinMap (slice_cmp nat_cmp) Host
  pub domains : FinMap (slice_cmp nat_cmp) DomainFace

abbrev pub public_part : PolicyRules → Registry → PublicPart
public_part p s = record {
  clock = s.clock;
  contacts = map_values (λ name. contact_face_of) s.contacts;
  hosts = s.hosts;
  domains = map_values (λ name d. face_of (standing_of p s d) d) s.domains;
}

-- what is found is read off the public part
abbrev pub IsPublic : {X : Type 0} → PolicyRules → (Registry → X) → Type 0
IsPublic {X} p find =
    (read : PublicPart → X) × ((s : Registry) → find s ≡ read (public_part p s))
