use Rattle.std.proofs.Common.{◌∙◌, sym, ap, subst}
use Rattle.calendar.specs.{Moment.IsMoment, Reading.date_fields}
use Rattle.calendar.proofs.DateTextLemmas.{spells-none, spells-date}
use Rattle.calendar.proofs.moment.Moment.is_on.Goals as goal

pub returns-in-None : goal.returns-in-None
returns-in-None c =
    spells-none c.args.self.now c.args.date.now (subst IsMoment c.self.view_is c.self.invariant) (ap date_fields (sym c.as_bytes.ensures.value) ∙ sym c.date_fields.ensures.value ∙ c.in-None.is)

pub returns-in-Some : goal.returns-in-Some
returns-in-Some c =
    c.has_date.ensures ∙ spells-date c.args.self.now c.args.date.now c.in-Some.year c.in-Some.month c.in-Some.day (subst IsMoment c.self.view_is c.self.invariant)
    (ap date_fields (sym c.as_bytes.ensures.value) ∙ sym c.in-Some.ensures.value)
