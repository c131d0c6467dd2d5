use Rattle.sqlaccounts.proofs.{LineLemmas.with_swaps, PostingLemmas.IsUnderway}
use Rattle.sqlaccounts.proofs.swapping.swap_all.Given as goal

-- the swaps that are left lead to where all of them do
abbrev pub invariant-loop-swap : goal.invariant-loop-swap
invariant-loop-swap g l = IsUnderway l.days l.registrar with_swaps l.fn.swaps l.swap-iterator.rest.items l.fn.row l.row l.fn.store l.store
