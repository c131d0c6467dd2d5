-- Clocks, by the moments that they are yet to tell.
use Rattle.std.specs.Prelude.{◌≡◌, ℕ, List, [], ◌∷◌, Option, None, Some, ⊤}

-- 2000-01-01T00:00:00Z, which a list tells that has come to its end
abbrev pub first_moment : ℕ
first_moment = 946_684_800

-- where its moments are known, a clock tells the first of them and then has the others
abbrev pub Tells : Option (List ℕ) → Option (List ℕ) → ℕ → Type 0
Tells None new moment = ⊤
Tells (Some []) new moment = (moment ≡ first_moment) × (new ≡ Some [])
Tells (Some (next ∷ later)) new moment = (moment ≡ next) × (new ≡ Some later)
