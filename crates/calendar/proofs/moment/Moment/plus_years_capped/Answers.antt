use Rattle.std.proofs.Common.{◌≤◌, arith}
use Rattle.calendar.specs.Moment.{plus_years}
use Rattle.calendar.proofs.YearLaws.{plus_years-later, capped-out}
use Rattle.calendar.proofs.moment.Moment.plus_years_capped.Goals as goal

pub returns-in-Err : goal.returns-in-Err
returns-in-Err c =
    let start : 946_684_800 ≤ c.args.self.now = omega (arith, c.self.invariant, c.self.view_is) in
    let later = plus_years-later c.args.self.now c.args.years in
    capped-out (plus_years c.args.self.now c.args.years) _ (omega arith) c.in-Err.ensures
