use Rattle.std.proofs.Common.{◌≡◌, drop}
use Rattle.wires.specs.inner.Replies.{number_behind}
use Rattle.wires.proofs.replies.number_behind.Given as goal

abbrev pub invariant-loop-at : goal.invariant-loop-at
invariant-loop-at l = number_behind l.word l.digits (drop l.at l.bytes) ≡ number_behind l.word l.digits l.bytes
