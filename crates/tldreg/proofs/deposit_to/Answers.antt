use Rattle.std.proofs.{Common.{◌≡◌, arith, to_z, of_z}, lemmas.Int.ints}
use Rattle.std.specs.Int.{w64}
use Rattle.tldreg.proofs.deposit_to.Goals as goal

pub returns-clause-ends : goal.returns-clause-ends
returns-clause-ends g c =
    let same : to_z w64 (of_z w64 c.args.cents) ≡ c.args.cents = omega (arith, ints) in
    let is_printed = rw same at c.deposit_on.ensures.is_printed in
    let stopped = rw same at c.deposit_on.ensures.stopped in
    (c.deposit_on.result, c.request_end.ensures, is_printed, stopped)
