-- The text of a zone, of the data that it has of a registry.
use Rattle.std.specs.Prelude.{ℕ, List, ◌∷◌, [], ◌++◌, filter, Option}
use Rattle.std.specs.List.{flat_map}
use Rattle.objects.specs.declared.zone.Delegation.{Delegation}
use Rattle.objects.specs.declared.zone.Glue.{Glue}
use Rattle.objects.specs.declared.zone.ZoneData.{ZoneData}
use Rattle.policy.specs.Rules.{PolicyRules}
use Rattle.streams.specs.Moves.{AppendsBeginning, AppendsLess}
use Rattle.zonefile.specs.declared.fault.ZoneFault.{ZoneFault}
use Rattle.zonefile.specs.declared.fault.ZoneFault.TheVariants.{Memory, Write}
use Rattle.zonefile.specs.Lines.{address_line, is_type_of, joined, ns_line, soa_line}
use Rattle.zonefile.specs.declared.line.AddressType.{AddressType}
use Rattle.zonefile.specs.declared.line.AddressType.TheVariants.{A, Aaaa}

-- the name servers of a domain
abbrev pub delegation_text : ℕ → Delegation → List ℕ
delegation_text ttl d = flat_map (ns_line d.name ttl) d.hosts

-- those addresses of a host that are of one type
abbrev pub address_lines : ℕ → AddressType → List ℕ → List (List ℕ) → List ℕ
address_lines ttl kind host addresses = flat_map (address_line host ttl kind) (filter (is_type_of kind) addresses)

-- the addresses of a host: those of version 4, then those of version 6
abbrev pub glue_text : ℕ → Glue → List ℕ
glue_text ttl g = address_lines ttl A g.host g.addresses ++ address_lines ttl Aaaa g.host g.addresses

-- the start of authority, then the name servers by domain and host, then the glue by host
unfoldable pub zone_text : PolicyRules → ℕ → ZoneData → List ℕ
zone_text p serial zone = joined (
    soa_line p.zone.label p.soa serial
    ∷ flat_map (delegation_text p.soa.ttl) zone.delegations
    ∷ flat_map (glue_text p.soa.ttl) zone.glue
    ∷ []
    )

-- what went out of the text before a fault: a beginning, and not all of it where a write failed
abbrev pub StopsWithin : ZoneFault → Option (List ℕ) → Option (List ℕ) → List ℕ → Type 0
StopsWithin Memory old new text = AppendsBeginning old new text
StopsWithin Write old new text = AppendsLess old new text
