use Rattle.std.proofs.Common.{◌≡◌, bytes_eq, take}
use Rattle.operator.proofs.token.is_same.Given as goal

abbrev pub invariant-loop-at : goal.invariant-loop-at
invariant-loop-at l = l.is_same ≡ bytes_eq (take l.at l.one) (take l.at l.other)
