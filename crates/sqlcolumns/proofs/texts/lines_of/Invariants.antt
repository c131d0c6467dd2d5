use Rattle.std.proofs.Common.{◌≡◌, map, take}
use Rattle.sqlcolumns.proofs.texts.lines_of.Given as goal

abbrev pub invariant-loop-piece : goal.invariant-loop-piece
invariant-loop-piece l = l.lines.items ≡ map (λ p. p.now) (take l.piece-index l.piece-items)
