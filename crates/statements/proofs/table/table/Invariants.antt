use Rattle.std.proofs.Common.{◌≡◌, ◌++◌, pos, string_bytes, drop}
use Rattle.statements.specs.Tables.{heading, rows}
use Rattle.statements.proofs.table.table.Given as goal

-- the rows that are written, and those of the lines that are left
abbrev pub invariant-loop-line : goal.invariant-loop-line
invariant-loop-line l = string_bytes l.written.text ++ rows l.bounds l.written.balance (drop l.line-index l.lines) ≡ heading ++ rows l.bounds (pos 0) l.lines
