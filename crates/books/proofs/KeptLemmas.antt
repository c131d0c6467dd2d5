-- What a refusal is counted as.
use Rattle.std.proofs.Common.{◌≡◌, ℕ, Bool, true, false}
use Rattle.books.specs.{Book.HasRefused, Kept.{book_state, state_of}, Records.RecordsState}

-- where it can refuse, a refusal that was counted is a refusal of the book
pub counts : (s t : RecordsState) (refuses : Bool) (was is : ℕ) → refuses ≡ true
    → HasRefused (book_state s was) (book_state t is) → HasRefused (state_of s refuses was) (state_of t refuses is)
counts s t true was is e it = it
counts s t false was is e it = cc
