-- Lists of a command, whose items are known by their texts.
use Rattle.std.specs.Prelude.{ℕ, Bool, false, not, ◌||◌, ◌+◌, nat_lt, List, [], ◌∷◌, ◌++◌, map, filter, length}
use Rattle.std.specs.List.{list_any}
use Rattle.std.specs.Str.{bytes_eq}
use Rattle.objects.specs.Links.{has_name, in_order}

-- an item of the list is known by the name
abbrev pub is_among : {A : Type 0} → (A → List ℕ) → List A → List ℕ → Bool
is_among text items name = list_any (λ other. bytes_eq (text other) name) items

-- the list names one thing twice
abbrev pub has_twice : {A : Type 0} → (A → List ℕ) → List A → Bool
has_twice text [] = false
has_twice text (item ∷ items) = is_among text items (text item) || has_twice text items

abbrev pub itself : List ℕ → List ℕ
itself text = text

-- of an object's names, those that an update doesn't remove
abbrev pub kept : {A : Type 0} → (A → List ℕ) → List (List ℕ) → List A → List (List ℕ)
kept text old removed = filter (λ name. not (is_among text removed name)) old

-- the names that an object has after an update
abbrev pub amended : {A : Type 0} → (A → List ℕ) → List (List ℕ) → List A → List A → List (List ℕ)
amended text old removed added = in_order (kept text old removed ++ map text added)

-- an item is added that is there
abbrev pub adds_what_is_there : {A : Type 0} → (A → List ℕ) → List (List ℕ) → List A → Bool
adds_what_is_there text old added = list_any (λ item. has_name old (text item)) added

-- an item is removed that isn't there
abbrev pub removes_what_is_not : {A : Type 0} → (A → List ℕ) → List (List ℕ) → List A → Bool
removes_what_is_not text old removed = list_any (λ item. not (has_name old (text item))) removed

-- there are more than the limit afterwards
abbrev pub is_over : {A : Type 0} → (A → List ℕ) → ℕ → List (List ℕ) → List A → List A → Bool
is_over text limit old removed added = nat_lt limit (length (kept text old removed) + length added)
