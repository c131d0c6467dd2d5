-- Records, one a line (RFC 1035, 5.1): owner, TTL, class IN, type, data. Each name ends in a dot.
use Rattle.std.specs.Prelude.{ℕ, Bool, not, List, [], ◌∷◌, ◌++◌, codes, decimal}
use Rattle.names.specs.Addresses.{has_colon}
use Rattle.policy.specs.declared.soa.Soa.{Soa}
use Rattle.zonefile.specs.declared.line.AddressType.{AddressType}
use Rattle.zonefile.specs.declared.line.AddressType.TheVariants.{A, Aaaa}

-- the pieces, one after the other
abbrev pub joined : List (List ℕ) → List ℕ
joined [] = []
joined (piece ∷ pieces) = piece ++ joined pieces

-- serial, refresh, retry, expire and minimum of a start of authority
abbrev pub soa_numbers : Soa → ℕ → List ℕ
soa_numbers soa serial = joined (
    decimal serial ∷ codes " " ∷ decimal soa.refresh ∷ codes " " ∷ decimal soa.retry ∷ codes " "
    ∷ decimal soa.expire ∷ codes " " ∷ decimal soa.minimum ∷ []
    )

-- the start of authority of a zone (RFC 1035, 3.3.13)
abbrev pub soa_line : List ℕ → Soa → ℕ → List ℕ
soa_line zone soa serial = joined (
    zone ∷ codes ". " ∷ decimal soa.ttl ∷ codes " IN SOA " ∷ soa.mname ∷ codes ". " ∷ soa.rname ∷ codes ". "
    ∷ soa_numbers soa serial ∷ codes "\n" ∷ []
    )

-- a name server of a domain (RFC 1035, 3.3.11)
abbrev pub ns_line : List ℕ → ℕ → List ℕ → List ℕ
ns_line domain ttl host = joined (domain ∷ codes ". " ∷ decimal ttl ∷ codes " IN NS " ∷ host ∷ codes ".\n" ∷ [])

abbrev pub type_text : AddressType → List ℕ
type_text A = codes "A"
type_text Aaaa = codes "AAAA"

-- an address with a colon is one of version 6 (RFC 3596, 2.1), and others are of version 4 (RFC 1035, 3.4.1)
abbrev pub is_type_of : AddressType → List ℕ → Bool
is_type_of A address = not (has_colon address)
is_type_of Aaaa address = has_colon address

-- an address of a host
abbrev pub address_line : List ℕ → ℕ → AddressType → List ℕ → List ℕ
address_line host ttl kind address = joined (host ∷ codes ". " ∷ decimal ttl ∷ codes " IN " ∷ type_text kind ∷ codes " " ∷ address ∷ codes "\n" ∷ [])
