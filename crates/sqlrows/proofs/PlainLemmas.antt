-- What asks nothing holds of each.
use Rattle.std.proofs.Common.{List, [], ◌∷◌}
use Rattle.std.specs.List.{AllByRecursion}

pub all_free : {X : Type 0} (xs : List X) → AllByRecursion (λ _. Unit {0}) xs
all_free [] = tt
all_free (x ∷ xs) = (tt, all_free xs)
