use Rattle.std.proofs.Common.{◌∙◌, sym, arith}
use Rattle.calendar.specs.Moment.{plus_years}
use Rattle.calendar.proofs.YearLaws.{plus_years-grows, plus_years-later}
use Rattle.lifecycle.proofs.PastLemmas.{past_last, not_past, not_passed}
use Rattle.lifecycle.proofs.renewal.years_by.Goals as goal

pub returns-in_default-clause-value : goal.returns-in_default-clause-value
returns-in_default-clause-value c =
    let past = past_last (plus_years c.args.start c.args.years) c.in_default.field-0 (omega (arith, plus_years-later c.args.start c.args.years)) (sym c.plus_years.ensures ∙ c.in_default.is) in
    not_passed c.args.limit (plus_years c.args.start c.args.years) (omega arith)

pub returns-else-lt-clause-small : goal.returns-else-lt-clause-small
returns-else-lt-clause-small c =
    let end = not_past (plus_years c.args.start c.args.years) c.in-Ok.end (sym c.plus_years.ensures ∙ c.in-Ok.is) in
    omega (arith, end.1, plus_years-grows c.args.start c.args.years)
