-- What falls due, where a row may have no moment for it.
use Rattle.std.specs.Prelude.{◌&&◌, Bool, false, int_le, ℤ, pos, Option, Some, None}

-- a number is there, from the first of these to the last
abbrev pub lies_within : ℤ → ℤ → Option ℤ → Bool
lies_within first last None = false
lies_within first last (Some v) = int_le first v && int_le v last

-- it has a moment, which is none before 1970, and not one after this
abbrev pub is_due_by : ℤ → Option ℤ → Bool
is_due_by moment due = lies_within (pos 0) moment due

-- it falls due at some moment: none is before 1970
abbrev pub falls_due : Option ℤ → Bool
falls_due None = false
falls_due (Some due) = int_le (pos 0) due
