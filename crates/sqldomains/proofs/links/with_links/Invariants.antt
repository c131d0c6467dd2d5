use Rattle.std.proofs.Common.{◌≡◌, true}
use Rattle.states.specs.States.{Reads}
use Rattle.sqldomains.specs.Domains as spec
use Rattle.sqldomains.proofs.links.with_links.Given as goal

-- nothing was changed, and the rows that are left lead to where all of them do
abbrev pub invariant-loop-row : goal.invariant-loop-row
invariant-loop-row g l =
    Reads l.fn.store l.store
    × (l.store.is_clean ≡ true → spec.with_links l.fn.store.content l.links l.row-iterator.rest.items ≡ spec.with_links l.fn.store.content l.fn.links l.fn.rows)
