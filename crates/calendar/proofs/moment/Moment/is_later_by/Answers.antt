use Rattle.calendar.proofs.RankLemmas.{rank-plus_years}
use Rattle.calendar.proofs.moment.Moment.is_later_by.Goals as goal

pub returns : goal.returns
returns c =
    rw (c.rank_after.ensures, c.rank_after-2.ensures)
    (rank-plus_years c.args.other.now c.args.other_years c.args.self.now c.args.years)
