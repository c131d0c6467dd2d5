-- Dates and times of day in the order of time.
use Rattle.std.specs.Prelude.{ℕ, ◌+◌, ◌*◌}
use Rattle.calendar.specs.Calendar.{Date}

-- as if each month had 31 days
unfoldable pub rank : Date → ℕ → ℕ
rank d second = ((d.year * 12 + d.month) * 31 + d.day) * 86_400 + second
