use Rattle.std.proofs.Common.{ℕ, suc, ◌+◌, ◌-◌, ◌<◌, ◌≤◌}
use Rattle.calendar.specs.Moment.{plus_years}
use Rattle.lifecycle.proofs.restoration.years_to_outlast.Given as goal

abbrev pub decreases-loop-moment : goal.decreases-loop-moment
decreases-loop-moment l = suc l.fn.moment - plus_years l.fn.domain.created (l.fn.domain.years + l.years)

abbrev pub invariant-loop-moment : goal.invariant-loop-moment
invariant-loop-moment l =
    ((j : ℕ) → j < l.years → plus_years l.fn.domain.created (l.fn.domain.years + j) ≤ l.fn.moment)
    × (l.fn.domain.years + l.years < 4_294_967_296)
