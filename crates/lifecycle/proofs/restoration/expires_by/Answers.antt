use Rattle.std.proofs.Common.{◌+◌, ◌<◌, arith}
use Rattle.calendar.specs.Moment.{plus_years}
use Rattle.calendar.proofs.YearLaws.{plus_years-grows}
use Rattle.lifecycle.proofs.RestorationLemmas.{lies-ahead}
use Rattle.lifecycle.proofs.restoration.expires_by.Goals as goal

pub returns-in-None-clause-value : goal.returns-in-None-clause-value
returns-in-None-clause-value c =
    let many : c.args.domain.now.years + c.args.more < 4_294_967_296 → ⊥ = c.in-None.ensures in
    lies-ahead c.args.moment (plus_years c.args.domain.now.created (c.args.domain.now.years + c.args.more))
    (omega (arith, many, c.secs.ensures.range.1, plus_years-grows c.args.domain.now.created (c.args.domain.now.years + c.args.more)))
