-- By which columns rows of lines are found.
use Rattle.std.specs.Prelude.{◌≡◌, ℕ, Bool, false, Option, Some, None}
use Rattle.std.specs.Option.{option_map_or}
use Rattle.objects.specs.declared.roid.ObjectKind.TheVariants.{Domain}
use Rattle.objects.specs.declared.roid.Roid.{Roid}
use Rattle.accounts.specs.declared.line.Line.{Line}
use Rattle.accounts.specs.Lines.{is_line}
use Rattle.sqlcolumns.specs.Lines.{line_of_columns}
use Rattle.sqlcolumns.specs.Numbers.{counter_column, registrar_column}
use Rattle.sqlcolumns.specs.Roids.{IsRoid}
use Rattle.sqltables.specs.Line.{line_of_object, line_with_account}
use Rattle.sqltables.specs.declared.line.LineRow.{LineRow}

-- a row of the registrar's with the domain's columns
abbrev pub is_row_on : ℕ → Roid → LineRow → Bool
is_row_on r roid row = line_of_object (registrar_column r) (registrar_column roid.creator) (counter_column roid.serial) row

-- a row of the registrar's, with the domain's columns if there is one
abbrev pub is_row_about : ℕ → Option Roid → LineRow → Bool
is_row_about r None row = line_with_account (registrar_column r) row
is_row_about r (Some roid) row = is_row_on r roid row

-- a domain's ROID that columns can have
pub record IsDomainRoid (roid : Roid) : Type 0 where
  pub kind : roid.kind ≡ Domain
  pub parts : IsRoid roid

-- a row that reads as this line
abbrev pub reads_as : Line → LineRow → Bool
reads_as line row = option_map_or (is_line line) (line_of_columns row) false
