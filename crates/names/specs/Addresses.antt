-- The canonical text of an address, IPv4 or IPv6.
use Rattle.std.specs.Prelude.{ℕ, Bool, false, ◌&&◌, ◌||◌, ◌==◌, List, [], ◌∷◌, length, Result, Ok, Err, if◌then◌else◌}
use Rattle.std.specs.Char.{is_ascii_digit}
use Rattle.std.specs.Int.{is_in_range}
use Rattle.std.specs.List.{list_all, list_any, slice_split}
use Rattle.names.specs.declared.fault.NameFault.{NameFault}
use Rattle.names.specs.declared.fault.NameFault.TheVariants.{Syntax}
use Rattle.names.specs.Labels.{is_dot}
use Rattle.names.specs.Ipv6.{is_colon, ipv6_of}

-- 200 to 249, and 250 to 255, after the 2
abbrev pub is_after_two : ℕ → ℕ → Bool
is_after_two b c = (is_in_range 48 52 b && is_ascii_digit c) || ((b == 53) && is_in_range 48 53 c)

-- 0 to 255 without leading zeros: `dec-octet` of RFC 3986, 3.2.2
abbrev pub is_dec_octet : List ℕ → Bool
is_dec_octet (a ∷ []) = is_ascii_digit a
is_dec_octet (a ∷ b ∷ []) = is_in_range 49 57 a && is_ascii_digit b
is_dec_octet (a ∷ b ∷ c ∷ []) = ((a == 49) && is_ascii_digit b && is_ascii_digit c) || ((a == 50) && is_after_two b c)
is_dec_octet _ = false

-- the parts between the dots
abbrev pub octets_of : List ℕ → List (List ℕ)
octets_of text = slice_split is_dot text

-- four such parts: `IPv4address` of RFC 3986, 3.2.2
unfoldable pub is_ipv4 : List ℕ → Bool
is_ipv4 text = (length (octets_of text) == 4) && list_all is_dec_octet (octets_of text)

unfoldable pub ipv4_of : List ℕ → Result (List ℕ) NameFault
ipv4_of text = if is_ipv4 text then Ok text else Err Syntax

-- such a text is read as IPv6, every other as IPv4
abbrev pub has_colon : List ℕ → Bool
has_colon text = list_any is_colon text

unfoldable pub address_of : List ℕ → Result (List ℕ) NameFault
address_of text = if has_colon text then ipv6_of text else ipv4_of text
