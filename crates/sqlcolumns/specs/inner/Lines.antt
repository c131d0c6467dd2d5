-- How a line of an account lies in its row.
use Rattle.std.specs.Prelude.{◌<◌, ◌^◌, ℤ, Option, Some, None, IfSome, option_map}
use Rattle.calendar.specs.Moment.{IsMoment}
use Rattle.objects.specs.declared.roid.ObjectKind.TheVariants.{Domain}
use Rattle.objects.specs.declared.roid.Roid.{Roid}
use Rattle.accounts.specs.declared.line.Line.{Line}
use Rattle.sqltables.specs.declared.line.LineRow.{LineRow}
use Rattle.sqlcolumns.specs.declared.line.DomainColumns.{DomainColumns}
use Rattle.sqlcolumns.specs.declared.roid.RoidColumns.{RoidColumns}
use Rattle.sqlcolumns.specs.Codes.{kind_column}
use Rattle.sqlcolumns.specs.Numbers.{exact_column, maybe_moment_column, moment_column, years_column}
use Rattle.sqlcolumns.specs.Roids.{IsRoid, roid_columns}
use Rattle.sqlcolumns.specs.Steps.{◌>>=◌}

-- ---- which values there are

pub record IsStorableLine (line : Line) : Type 0 where
  pub roid : IfSome line.roid IsRoid
  pub recorded : IsMoment line.recorded
  pub years : line.years < 2 ^ 32
  pub started : IfSome line.started IsMoment
  pub refunded : IfSome line.refunded IsMoment

-- ---- written

abbrev pub not_null : RoidColumns → DomainColumns
not_null columns = record { creator = Some columns.creator; serial = Some columns.serial }

-- only a domain's ROID is written; both columns are NULL of no domain
abbrev pub domain_columns : Option Roid → Option DomainColumns
domain_columns None = Some (record { creator = None; serial = None })
domain_columns (Some roid) = option_map not_null (roid_columns Domain roid)

abbrev pub line_row_with : ℤ → ℤ → Line → Option ℤ → DomainColumns → ℤ → LineRow
line_row_with id account line ends domain cents = record {
  id = id;
  account = account;
  kind = kind_column line.kind;
  creator = domain.creator;
  serial = domain.serial;
  recorded = moment_column line.recorded;
  years = years_column line.years;
  cents = cents;
  refunded = maybe_moment_column line.refunded;
  grace = record { started = maybe_moment_column line.started; ends = ends };
}

-- The row of a line, under its number and its account's. When its grace ends is no part of the line: that
-- column is given.
abbrev pub row_of_line : ℤ → ℤ → Line → Option ℤ → Option LineRow
row_of_line id account line ends = do
  domain ← domain_columns line.roid
  cents ← exact_column line.cents
  Some (line_row_with id account line ends domain cents)
