use Rattle.std.proofs.Common.{◌≡◌, ◌++◌, filter, map}
use Rattle.sqldomains.proofs.Words.{HostRow, is_below}
use Rattle.sqldomains.proofs.below.names_below.Given as goal

-- the names so far and those of the rows that are left
abbrev pub invariant-loop-row : goal.invariant-loop-row
invariant-loop-row l = l.names ++ filter (is_below l.domain) (map (λ (r : HostRow). r.name) l.row-iterator.rest.items) ≡ filter (is_below l.fn.domain) (map (λ (r : HostRow). r.name) l.fn.rows)
