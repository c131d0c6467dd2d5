use Rattle.std.proofs.Common.{◌≡◌, ◌++◌, map}
use Rattle.decisions.specs.Changes.{posting_change}
use Rattle.registry.proofs.lapse.posts_of.Given as goal

-- with those that are left, all of them
abbrev pub invariant-loop-it : goal.invariant-loop-it
invariant-loop-it l = l.posts.items ++ map posting_change l.it-iterator.rest.items ≡ map posting_change l.fn.postings.items
