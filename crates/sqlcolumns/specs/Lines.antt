-- How a line of an account lies in its row.
use Rattle.std.specs.Prelude.{ℕ, ℤ, Option, Some, None, option_map}
use Rattle.objects.specs.declared.roid.ObjectKind.TheVariants.{Domain}
use Rattle.objects.specs.declared.roid.Roid.{Roid}
use Rattle.accounts.specs.declared.line.Line.{Line}
use Rattle.accounts.specs.declared.line.LineKind.{LineKind}
use Rattle.sqltables.specs.declared.line.LineRow.{LineRow}
use Rattle.sqlcolumns.specs.Codes.{kind_in}
use Rattle.sqlcolumns.specs.Numbers.{exact_in, maybe_moment_in, moment_in_column, years_in_column}
use Rattle.sqlcolumns.specs.Roids.{roid_in}
use Rattle.sqlcolumns.specs.Steps.{◌>>=◌}

-- ---- read

-- the domain of these columns, or none where both are NULL
abbrev pub maybe_domain_in : Option ℤ → Option ℤ → Option (Option Roid)
maybe_domain_in None None = Some None
maybe_domain_in (Some creator) (Some serial) = option_map Some (roid_in Domain creator serial)
maybe_domain_in None (Some serial) = None
maybe_domain_in (Some creator) None = None

-- the line of these parts, if all are there
abbrev pub line_made : Option LineKind → Option (Option Roid) → Option ℕ → Option ℕ → Option ℕ
    → Option (Option ℕ) → Option (Option ℕ) → Option Line
line_made kind roid recorded years cents started refunded = do
  k ← kind
  r ← roid
  m ← recorded
  y ← years
  c ← cents
  s ← started
  b ← refunded
  Some (record { kind = k; roid = r; recorded = m; years = y; cents = c; started = s; refunded = b })

-- the line of a row, if each column but that of its grace's end reads
abbrev pub line_of_columns : LineRow → Option Line
line_of_columns row =
    line_made (kind_in row.kind) (maybe_domain_in row.creator row.serial) (moment_in_column row.recorded) (years_in_column row.years)
    (exact_in row.cents) (maybe_moment_in row.grace.started) (maybe_moment_in row.refunded)
