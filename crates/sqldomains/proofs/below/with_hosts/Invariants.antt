use Rattle.std.proofs.Common.{◌≡◌, true}
use Rattle.sqldomains.proofs.Words.{empty, Reads}
use Rattle.sqldomains.specs.inner.Names as spec
use Rattle.sqldomains.proofs.below.with_hosts.Given as goal

-- nothing was changed, and the rows that are left give what all of them do
abbrev pub invariant-loop-name : goal.invariant-loop-name
invariant-loop-name g l =
    Reads l.fn.store l.store
    × (l.store.is_clean ≡ true → spec.with_hosts l.fn.store.content l.names l.name-iterator.rest.items ≡ spec.with_hosts l.fn.store.content empty l.fn.found)
