-- The canonical text of an IPv6 address (RFC 4291, 2.2): eight groups in lower case without leading zeros.
use Rattle.std.specs.Prelude.{ℕ, ◌+◌, ◌-◌, ◌*◌, Bool, false, ◌&&◌, ◌==◌, max, List, [], ◌∷◌, ◌++◌, map, length, drop, replicate, slice_index, Option, Some, None, option_map, Result, Ok, Err, if◌then◌else◌}
use Rattle.std.specs.Char.{is_ascii_digit, is_ascii_hexdigit}
use Rattle.std.specs.Fmt.{digits}
use Rattle.std.specs.Int.{is_in_range}
use Rattle.std.specs.List.{list_all, slice_split, join_with_byte}
use Rattle.names.specs.declared.fault.NameFault.{NameFault}
use Rattle.names.specs.declared.fault.NameFault.TheVariants.{Syntax}
use Rattle.names.specs.Reading.{◌>>=◌}

abbrev pub is_colon : ℕ → Bool
is_colon b = b == 58

-- 1 to 4 hexadecimal digits, in either case
abbrev pub is_group : List ℕ → Bool
is_group text = is_in_range 1 4 (length text) && list_all is_ascii_hexdigit text

-- the value of a hexadecimal digit
abbrev pub digit_of : ℕ → ℕ
digit_of b = if is_ascii_digit b then b - 48 else (if is_in_range 97 102 b then b - 87 else (if is_in_range 65 70 b then b - 55 else 0))

abbrev pub pair_of : ℕ → ℕ → ℕ
pair_of a b = digit_of a * 16 + digit_of b

-- the value of a group
abbrev pub group_of : List ℕ → ℕ
group_of (a ∷ []) = digit_of a
group_of (a ∷ b ∷ []) = pair_of a b
group_of (a ∷ b ∷ c ∷ []) = digit_of a * 256 + pair_of b c
group_of (a ∷ b ∷ c ∷ d ∷ []) = pair_of a b * 256 + pair_of c d
group_of _ = 0

-- the parts between the colons
abbrev pub parts_of : List ℕ → List (List ℕ)
parts_of text = slice_split is_colon text

-- groups with colons between
unfoldable pub groups_of : List ℕ → Result (List ℕ) NameFault
groups_of text = if list_all is_group (parts_of text) then Ok (map group_of (parts_of text)) else Err Syntax

-- the groups on one side of a `::`, of which there may be none
unfoldable pub side_of : List ℕ → Result (List ℕ) NameFault
side_of text = if length text == 0 then Ok [] else groups_of text

-- the two bytes begin a `::`
abbrev pub begins_gap : ℕ → List ℕ → Bool
begins_gap b rest = is_colon b && is_colon (slice_index rest 0)

-- the parts before and after the first `::`
unfoldable pub cut_at_gap : List ℕ → Option (List ℕ × List ℕ)
cut_at_gap [] = None
cut_at_gap (b ∷ rest) = if begins_gap b rest then Some ([], drop 1 rest) else option_map (λ sides. (b ∷ sides.0, sides.1)) (cut_at_gap rest)

-- a `::` stands for one or more groups of zeros, as many as eight lack
abbrev pub with_zeros : List ℕ → List ℕ → List ℕ
with_zeros front back = front ++ replicate (max 1 (8 - (length front + length back))) 0 ++ back

abbrev pub groups_by_gap : List ℕ → Option (List ℕ × List ℕ) → Result (List ℕ) NameFault
groups_by_gap text None = groups_of text
groups_by_gap text (Some sides) = do
  front ← side_of sides.0
  back ← side_of sides.1
  Ok (with_zeros front back)

-- the groups of an address
unfoldable pub all_groups_of : List ℕ → Result (List ℕ) NameFault
all_groups_of text = groups_by_gap text (cut_at_gap text)

-- a group in lower case without leading zeros
abbrev pub shown : ℕ → List ℕ
shown group = digits 16 false group

-- groups with colons between
abbrev pub joined : List ℕ → List ℕ
joined groups = join_with_byte 58 (map shown groups)

-- the text of eight groups
unfoldable pub ipv6_text : List ℕ → Result (List ℕ) NameFault
ipv6_text (a ∷ b ∷ c ∷ d ∷ e ∷ f ∷ g ∷ h ∷ []) = Ok (joined (a ∷ b ∷ c ∷ d ∷ e ∷ f ∷ g ∷ h ∷ []))
ipv6_text _ = Err Syntax

unfoldable pub ipv6_of : List ℕ → Result (List ℕ) NameFault
ipv6_of text = do
  groups ← all_groups_of text
  ipv6_text groups
