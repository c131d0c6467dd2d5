use Rattle.std.proofs.Common.{◌≡◌, ◌++◌}
use Rattle.mapbook.specs.inner.Posting.{swap_edits}
use Rattle.mapbook.proofs.posting.each_swapped.Given as goal

abbrev pub invariant-loop-swap : goal.invariant-loop-swap
invariant-loop-swap l = l.edits.items ++ swap_edits l.swap-iterator.rest.items ≡ swap_edits l.fn.swaps.items
