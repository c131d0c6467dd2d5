-- Rows that may not read, or may be too many.
use Rattle.std.specs.Prelude.{◌≡◌, List, [], ◌∷◌, Option, Some, None, is_some, slice_get}

-- the rows that one row, or none, is
abbrev pub rows_of : {R : Type 0} → Option R → List R
rows_of None = []
rows_of (Some row) = row ∷ []

-- the first of two values, or the other
abbrev pub or_else : {X : Type 0} → Option X → Option X → Option X
or_else None other = other
or_else (Some x) other = Some x

-- what the first of these rows that reads, reads as
abbrev pub first_read : {R X : Type 0} → (R → Option X) → List R → Option X
first_read read [] = None
first_read read (row ∷ rows) = or_else (read row) (first_read read rows)

-- Whether a thing is found says whether there is a row: none that doesn't read is left out.
abbrev pub IsRead : {R X : Type 0} → List R → Option X → Type 0
IsRead rows found = is_some found ≡ is_some (slice_get rows 0)

-- what a row reads as, under its name
abbrev pub named : {N X : Type 0} → N → Option X → Option (N × X)
named name None = None
named name (Some x) = Some (name, x)
