use Rattle.std.proofs.Common.{◌≡◌, ◌++◌}
use Rattle.books.specs.inner.Grouping.{others, posts_of}
use Rattle.books.proofs.grouping.part.Given as goal

-- with those of the changes that are left, all of them
abbrev pub invariant-loop-change : goal.invariant-loop-change
invariant-loop-change l =
    (l.posts.items ++ posts_of l.registrar l.change-iterator.rest.items ≡ posts_of l.registrar l.fn.changes.items)
    × (l.others.items ++ others l.registrar l.change-iterator.rest.items ≡ others l.registrar l.fn.changes.items)
