-- The members of a reply's objects.
use Rattle.std.specs.Prelude.{ℕ, ◌&&◌, Bool, true, List, [], ◌∷◌, map, Option, Some, None}
use Rattle.std.specs.List.{list_all}
use Rattle.std.specs.Ordering.{nat_cmp, is_lt}
use Rattle.std.specs.Cmp.Lexicographic.{slice_cmp}
use Rattle.serde_json.specs.Data.{Data, string, array, Members, no_members, member}
use Rattle.serde_json.specs.View.{items_of}
use Rattle.calendar.specs.Text.{moment_text}

abbrev pub with_some : List ℕ → Option Data → Members → Members
with_some name None ms = ms
with_some name (Some d) ms = member name d ms

-- these members in this order, without those that have no value
abbrev pub members_with : List (List ℕ × Option Data) → Members
members_with [] = no_members
members_with (m ∷ ms) = with_some m.0 m.1 (members_with ms)

-- the names are in the order of their bytes, each once
abbrev pub are_in_order : List (List ℕ × Option Data) → Bool
are_in_order [] = true
are_in_order (m ∷ ms) =
    list_all (λ later. is_lt (slice_cmp nat_cmp m.0 later.0)) ms && are_in_order ms

abbrev pub texts_value : List (List ℕ) → Data
texts_value texts = array (items_of (map string texts))

abbrev pub moment_value : ℕ → Data
moment_value m = string (moment_text m)
