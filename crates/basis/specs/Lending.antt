-- What becomes of a map once a borrow of one of its values ends.
use Rattle.std.specs.Prelude.{◌≡◌, ℕ, Option}
use Rattle.std.specs.Borrow.{Fml, LendsSo, MutBor, RattleType}
use Rattle.std.specs.FinMap.{FinMap, insert}
use Rattle.std.specs.Option.{OnSome}
use Rattle.std.specs.Ordering.{nat_cmp}
use Rattle.basis.specs.contracts.maps.RegistrarMap.{the_row}

-- the map has at the place the last value written through r, and is as it was where r is none
abbrev pub LendsValue : (V : RattleType) → MutBor (FinMap nat_cmp V.Denot) → ℕ → Option (MutBor V.Denot) → Fml
LendsValue V m place r = LendsSo (the_row V) V m r (λ n w. OnSome r (n ≡ insert m.now place w)) (λ n. n ≡ m.now)
