-- Parameters without the first, which is a row's number.
use Rattle.std.proofs.Common.{◌≡◌, ◌∙◌, ℕ, List, [], ◌∷◌, map, take, drop, refl, sym, ap}
use Rattle.sqlrows.proofs.Words.{Row, take-map}
use Rattle.sqlite_value.specs.declared.value.ValueRef.{ValueRef}
use Rattle.sqlite.specs.Values.{bound}

without_first : {X Y : Type 0} (f : X → Y) (xs : List X) → map f (drop 1 xs) ≡ drop 1 (map f xs)
without_first f [] = refl
without_first f (x ∷ xs) = refl

pub past_first : (xs : List ValueRef) (row : Row) → bound xs ≡ row → (count : ℕ) → bound (take count (drop 1 xs)) ≡ take count (drop 1 row)
past_first xs row is count = sym (take-map _ count (drop 1 xs)) ∙ ap (take count) (without_first _ xs ∙ ap (drop 1) is)
