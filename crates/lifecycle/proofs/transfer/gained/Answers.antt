use Rattle.std.proofs.Common.{arith, ◌+◌, ◌<◌}
use Rattle.calendar.proofs.YearLaws.{plus_years-far, plus_years-grows}
use Rattle.lifecycle.proofs.PastLemmas.{no_year}
use Rattle.lifecycle.proofs.transfer.gained.Goals as goal

pub returns-in_default-clause-value : goal.returns-in_default-clause-value
returns-in_default-clause-value c =
    let many : c.args.domain.now.years + 1 < 4_294_967_296 → ⊥ = c.in_default.ensures in
    no_year c.args.domain.now c.args.moment
    (omega (arith, plus_years-far c.args.moment c.secs.ensures.range.1, plus_years-grows c.args.domain.now.created (c.args.domain.now.years + 1)))
