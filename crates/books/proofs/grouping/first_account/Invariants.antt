use Rattle.std.proofs.Common.{◌≡◌, drop}
use Rattle.books.specs.inner.Grouping.{first_account}
use Rattle.books.proofs.grouping.first_account.Given as goal

-- so far there was none
abbrev pub invariant-loop-change : goal.invariant-loop-change
invariant-loop-change l = first_account (drop l.change-index l.changes) ≡ first_account l.changes
