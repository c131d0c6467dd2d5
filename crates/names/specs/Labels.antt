-- The rule of names, over their bytes in lower-case ASCII.
use Rattle.std.specs.Prelude.{ℕ, ◌-◌, Bool, not, ◌&&◌, ◌||◌, ◌==◌, nat_le, List, length, slice_index}
use Rattle.std.specs.Char.{is_ascii_lowercase, is_ascii_digit}
use Rattle.std.specs.Int.{is_in_range}
use Rattle.std.specs.List.{list_all, slice_split}

-- a to z, 0 to 9 and the hyphen (RFC 1034, 3.5)
abbrev pub is_label_byte : ℕ → Bool
is_label_byte b = is_ascii_lowercase b || is_ascii_digit b || (b == 45)

-- places 3 and 4 have hyphens
abbrev pub has_hyphens : List ℕ → Bool
has_hyphens label = nat_le 4 (length label) && (slice_index label 2 == 45) && (slice_index label 3 == 45)

abbrev pub begins_with_xn : List ℕ → Bool
begins_with_xn label = (slice_index label 0 == 120) && (slice_index label 1 == 110)

-- 1 to 63 such bytes (RFC 1035, 2.3.4), no hyphen at either end, and hyphens in places 3 and 4 only after xn (RFC 5890, 2.3.1)
unfoldable pub is_label : List ℕ → Bool
is_label label =
    is_in_range 1 63 (length label) && list_all is_label_byte label
    && not (slice_index label 0 == 45) && not (slice_index label (length label - 1) == 45)
    && (not (has_hyphens label) || begins_with_xn label)

abbrev pub is_dot : ℕ → Bool
is_dot b = b == 46

-- the parts between the dots
abbrev pub labels_of : List ℕ → List (List ℕ)
labels_of name = slice_split is_dot name

-- at most 253 bytes (RFC 1035, 2.3.4), and each part is a label: so no dot at the end, and no two in a row
unfoldable pub is_name : List ℕ → Bool
is_name name = nat_le (length name) 253 && list_all is_label (labels_of name)
