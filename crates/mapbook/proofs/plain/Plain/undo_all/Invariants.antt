use Rattle.std.proofs.Common.{◌≡◌, length}
use Rattle.mapbook.specs.Plain.{at_begin}
use Rattle.mapbook.proofs.plain.Plain.undo_all.Given as goal

abbrev pub invariant-loop-self : goal.invariant-loop-self
invariant-loop-self l = (at_begin l.self ≡ at_begin l.fn.self) × (l.self.is_open ≡ l.fn.self.is_open) × (l.self.is_used ≡ l.fn.self.is_used)

abbrev pub decreases-loop-self : goal.decreases-loop-self
decreases-loop-self l = length l.self.undo
