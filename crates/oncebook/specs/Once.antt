-- A book that refuses one call of its own accord.
use Rattle.std.specs.Prelude.{◌≡◌, ℕ, ◌+◌, min, true, ◌&&◌, nat_eq}
use Rattle.books.specs.Book.{BookState, Follows, HasRefused, IsBack, BookLeavesSame}

-- the state of a book that refused so often besides, for no cause
abbrev pub with_refusals : ℕ → BookState → BookState
with_refusals refused s = record s {
  refused = min (s.refused + refused) 0xFFFF_FFFF_FFFF_FFFF;
  is_honest = s.is_honest && nat_eq refused 0;
}

-- It went back, counted a refusal, and doesn't say that it is honest.
pub record RefusesOnce (old new : BookState) : Type 0 where
  pub back : IsBack old new
  pub refused : HasRefused old new
  pub follows : Follows old new
  pub leaves : BookLeavesSame old new
  pub dishonest : new.is_honest ≡ true → ⊥
