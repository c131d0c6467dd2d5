use Rattle.std.proofs.Common.{◌≡◌, true}
use Rattle.sqldomains.proofs.Words.{Reads, with_rows}
use Rattle.sqldomains.proofs.zone_rows.with_rows.Given as goal

-- nothing was changed, and the rows that are left give what all of them do
abbrev pub invariant-loop-row : goal.invariant-loop-row
invariant-loop-row g l =
    Reads l.fn.store l.store
    × (l.store.is_clean ≡ true
    → with_rows l.fn.store.content l.fn.links l.fn.transfers l.all l.row-iterator.rest.items ≡ with_rows l.fn.store.content l.fn.links l.fn.transfers l.fn.all l.fn.rows)
