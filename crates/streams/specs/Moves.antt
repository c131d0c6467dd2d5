-- What writes leave that don't go on to the end.
use Rattle.std.specs.Prelude.{◌≡◌, ℕ, ◌<◌, List, length, take, Option}
use Rattle.std.specs.Io.KnownBytes.{Appends}

-- a beginning of a text, and not all of it
abbrev pub IsLess : (part text : List ℕ) → Type 0
IsLess part text = (n : ℕ) × (n < length text) × (part ≡ take n text)

-- the known bytes grew by a beginning of a text
abbrev pub AppendsBeginning : (before after : Option (List ℕ)) → (text : List ℕ) → Type 0
AppendsBeginning before after text = (n : ℕ) × Appends before after (take n text)

-- the same, and not by all of it
abbrev pub AppendsLess : (before after : Option (List ℕ)) → (text : List ℕ) → Type 0
AppendsLess before after text = (n : ℕ) × (n < length text) × Appends before after (take n text)
