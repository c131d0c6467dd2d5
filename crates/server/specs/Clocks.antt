-- Times of a machine, as moments.
use Rattle.std.specs.Prelude.{ℕ, max, min, Option, None, Some}

-- seconds since 1970, moved into the range from 2000-01-01T00:00:00Z to 2199-12-31T23:59:59Z
abbrev pub nearest_moment : ℕ → ℕ
nearest_moment secs = max 946_684_800 (min secs 7_258_118_399)

-- that of a time, if one was read; else the first moment
abbrev pub moment_of_time : Option ℕ → ℕ
moment_of_time None = 946_684_800
moment_of_time (Some secs) = nearest_moment secs
