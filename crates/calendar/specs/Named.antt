-- The moment that a text names.
use Rattle.std.specs.Prelude.{ℕ, zero, suc, Bool, List, Option, Some, None, if◌then◌else◌}
use Rattle.std.specs.Str.{bytes_eq}
use Rattle.calendar.specs.Text.{moment_text}

-- the first of so many numbers from one on that passes a test
unfoldable pub first_from : (ℕ → Bool) → ℕ → ℕ → Option ℕ
first_from test first zero = None
first_from test first (suc more) = if test first then Some first else first_from test (suc first) more

-- the moment whose text it is: there are 6,311,433,600, of which 2000-01-01T00:00:00Z is the first
unfoldable pub moment_named : List ℕ → Option ℕ
moment_named text = first_from (λ m. bytes_eq (moment_text m) text) 946_684_800 6_311_433_600
