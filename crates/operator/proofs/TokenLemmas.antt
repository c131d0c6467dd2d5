-- Texts that are compared byte by byte.
use Rattle.std.proofs.Common.{◌≡◌, ℕ, ◌<◌, zero, suc, Bool, true, false, ◌&&◌, nat_eq, List, [], ◌∷◌, length, take, get_or, bytes_eq, refl, arith}

and_assoc : (a b c : Bool) → (a && (b && c)) ≡ ((a && b) && c)
and_assoc true b c = refl
and_assoc false b c = refl

-- one more byte
pub one_more : (one other : List ℕ) (at : ℕ) → length one ≡ length other → at < length one
    → bytes_eq (take (suc at) one) (take (suc at) other) ≡ (bytes_eq (take at one) (take at other) && nat_eq (get_or one at 0) (get_or other at 0))
one_more [] other at same within = absurd (omega arith)
one_more (x ∷ xs) [] at same within = absurd (omega arith)
one_more (x ∷ xs) (y ∷ ys) zero same within = grind arith
one_more (x ∷ xs) (y ∷ ys) (suc at) same within = rw (one_more xs ys at (omega arith) (omega arith)) (and_assoc (nat_eq x y) (bytes_eq (take at xs) (take at ys)) (nat_eq (get_or xs at 0) (get_or ys at 0)))
