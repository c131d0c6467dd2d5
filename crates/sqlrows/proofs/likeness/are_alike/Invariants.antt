use Rattle.std.proofs.Common.{◌≡◌, length}
use Rattle.std.specs.List.{AllByRecursion}
use Rattle.sqlrows.proofs.likeness.are_alike.Given as goal

abbrev pub invariant-pairs : goal.invariant-pairs
invariant-pairs g l = (l.rest ≡ l.others → l.fn.these ≡ l.fn.plain) × (l.fn.these ≡ l.fn.plain → l.rest ≡ l.others) × (AllByRecursion g.T.Alike.IsPlain l.fn.plain → AllByRecursion g.T.Alike.IsPlain l.others)

abbrev pub decreases-pairs : goal.decreases-pairs
decreases-pairs g l = length l.rest
