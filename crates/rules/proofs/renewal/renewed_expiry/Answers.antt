use Rattle.std.proofs.Common.{◌+◌, ◌∙◌, ap}
use Rattle.calendar.specs.Moment.{capped, plus_years}
use Rattle.rules.proofs.RenewalLemmas.{capped-saturated}
use Rattle.rules.proofs.renewal.renewed_expiry.Goals as goal

pub returns : goal.returns
returns c =
    c.plus_years_capped.ensures ∙ ap (λ years. capped (plus_years c.args.domain.now.created years)) c.saturating_add-all.ensures
    ∙ capped-saturated c.args.domain.now.created (c.args.domain.now.years + c.args.years)
