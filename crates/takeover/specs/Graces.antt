-- The rows of lines, with the ends of their graces (RFC 3915, 3.1).
use Rattle.std.specs.Prelude.{option_and_then}
use Rattle.policy.specs.declared.schedule.Schedule.{Schedule}
use Rattle.sqlaccounts.specs.Graces.{grace_end}
use Rattle.sqlcolumns.specs.Lines.{line_of_columns}
use Rattle.sqlcolumns.specs.Numbers.{maybe_moment_column}
use Rattle.sqltables.specs.declared.line.LineRow.{LineRow}

-- a row that says so of its line; one that doesn't read says nothing
abbrev pub with_grace_end : Schedule → LineRow → LineRow
with_grace_end days row = record row { grace = record row.grace { ends = maybe_moment_column (option_and_then (grace_end days) (line_of_columns row)) } }
