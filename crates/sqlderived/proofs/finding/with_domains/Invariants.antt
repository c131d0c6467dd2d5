use Rattle.std.proofs.Common.{◌≡◌, true}
use Rattle.states.specs.States.{Reads}
use Rattle.sqlderived.specs.inner.Finding as spec
use Rattle.sqlderived.proofs.finding.with_domains.Given as goal

-- nothing was changed, and the rows that are left give what all of them do
abbrev pub invariant-loop-row : goal.invariant-loop-row
invariant-loop-row g l =
    Reads l.fn.store l.store
    × (l.store.is_clean ≡ true → spec.with_rows (spec.domain_due_shown l.fn.policy l.fn.moment l.fn.store.content) l.found.keys l.row-iterator.rest.items
    ≡ spec.with_rows (spec.domain_due_shown l.fn.policy l.fn.moment l.fn.store.content) l.fn.found.keys l.fn.rows)
