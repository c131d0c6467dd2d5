-- What a domain names (RFC 5731, 1.1 and 2.2; RFC 5732, 1.1).
use Rattle.std.specs.Prelude.{ℕ, Bool, ◌||◌, List}
use Rattle.std.specs.List.{list_any}
use Rattle.std.specs.Ordering.{nat_cmp}
use Rattle.std.specs.Cmp.Lexicographic.{slice_cmp}
use Rattle.std.specs.Str.{bytes_eq}
use Rattle.basis.specs.Bag.{precedes, sorted}
use Rattle.objects.specs.declared.domain.FullDomain.{FullDomain}
use Rattle.objects.specs.declared.domain.DomainFace.{DomainFace}
use Rattle.objects.specs.declared.domain.Links.{Links}
use Rattle.objects.specs.declared.sight.Seen.{Seen}
use Rattle.objects.specs.declared.sight.Seen.TheVariants.{Full, TransferParty, Public}

-- the list has the name
abbrev pub has_name : List (List ℕ) → List ℕ → Bool
has_name names name = list_any (λ other. bytes_eq other name) names

-- the domain names the contact, as its registrant, its administrative or its technical contact
abbrev pub names_contact : List ℕ → Links → Bool
names_contact contact links = bytes_eq links.registrant contact || (has_name links.admin contact || has_name links.tech contact)

-- the domain names the host
abbrev pub names_host : List ℕ → Links → Bool
names_host host links = has_name links.hosts host

-- what a domain names, of what is seen of it
abbrev pub links_seen : Seen FullDomain DomainFace → Links
links_seen (Full full) = full.domain.links
links_seen (TransferParty face t) = face.links
links_seen (Public face) = face.links

-- names in the order of their bytes
abbrev pub in_order : List (List ℕ) → List (List ℕ)
in_order names = sorted (precedes (slice_cmp nat_cmp)) names
