use Rattle.lifecycle.specs.Changes.{all_changed}
use Rattle.sqlaccounts.proofs.PostingLemmas.{IsUnderway}
use Rattle.sqlaccounts.proofs.posting.posted.Given as goal

-- the changes that are left lead to where all of them do
abbrev pub invariant-loop-what : goal.invariant-loop-what
invariant-loop-what g l = IsUnderway l.days l.registrar (all_changed l.policy) l.fn.changes.items l.what-iterator.rest.items l.fn.row l.row l.fn.store l.store
