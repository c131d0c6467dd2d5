use Rattle.std.proofs.Common.{◌≡◌, take}
use Rattle.mapbook.proofs.Words.{bag_of, in_order}
use Rattle.mapbook.proofs.ledgers.bag_of.Given as goal

abbrev pub invariant-loop-line : goal.invariant-loop-line
invariant-loop-line l = l.bag ≡ bag_of in_order (take l.line-index l.lines)
