use Rattle.std.proofs.Common.{sym}
use Rattle.lifecycle.proofs.RestorationLemmas.{enough-years, one-more-year}
use Rattle.lifecycle.proofs.restoration.years_to_outlast.Goals as goal

pub loop-moment-smaller : goal.loop-moment-smaller
loop-moment-smaller c = one-more-year c.args.domain.now c.args.moment c.loop-moment.years (sym c.loop-moment-test.ensures.value)

pub returns-clause-value : goal.returns-clause-value
returns-clause-value c = enough-years c.args.domain.now c.args.moment c.loop-moment.years c.loop-moment.invariant.0 (sym c.loop-moment-test.ensures.value)
