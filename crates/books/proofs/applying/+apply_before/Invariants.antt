use Rattle.std.proofs.Common.{length}
use Rattle.books.proofs.applying.+apply_before.Given as goal

-- those of an account are gone each time
abbrev pub decreases-apply_before : goal.decreases-apply_before
decreases-apply_before g l = length l.changes.items
