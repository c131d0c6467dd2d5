-- Below which name of two labels a name lies.
use Rattle.std.specs.Prelude.{ℕ, ◌-◌, ◌==◌, List, length, drop}
use Rattle.std.specs.List.{join_with_byte, slice_split}

abbrev pub parts_between_dots : List ℕ → List (List ℕ)
parts_between_dots name = slice_split (λ b. b == 46) name

abbrev pub last_two : List (List ℕ) → List (List ℕ)
last_two labels = drop (length labels - 2) labels

-- the last two labels of a name, and the whole name where it has fewer
unfoldable pub above : List ℕ → List ℕ
above name = join_with_byte 46 (last_two (parts_between_dots name))
