use Rattle.std.proofs.Common.{◌≡◌, take}
use Rattle.sqlaccounts.proofs.Words.{bag_of, filter_map, in_order, line_of_columns}
use Rattle.sqlaccounts.proofs.reading_lines.read.Given as goal

abbrev pub invariant-loop-row : goal.invariant-loop-row
invariant-loop-row l = l.lines ≡ bag_of in_order (filter_map line_of_columns (take l.row-index l.rows))
