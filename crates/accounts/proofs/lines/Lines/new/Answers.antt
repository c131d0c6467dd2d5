use Rattle.std.proofs.Common.{rules, arith, refl}
use Rattle.accounts.specs.Lines.{balance}
use Rattle.basis.specs.Bag.{bag_of}
use Rattle.accounts.proofs.lines.Lines.new.Goals as goal

pub invariant_of-result : goal.invariant_of-result
unfolding bag_of balance
invariant_of-result c = rw c.new.ensures.empty (record { grouped = record { sorted = search rules; under = tt }; counted = record { count = refl; few = omega arith; small = tt; sum = refl } })

pub returns : goal.returns
unfolding bag_of
returns c = rw c.new.ensures.empty
