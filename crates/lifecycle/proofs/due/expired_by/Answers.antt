use Rattle.std.proofs.Common.{◌∙◌, sym}
use Rattle.lifecycle.proofs.DueLaws.{not-expired}
use Rattle.lifecycle.proofs.due.expired_by.Goals as goal

pub returns-in_err-end : goal.returns-in_err-end
returns-in_err-end c =
    c.from_residual.ensures ∙ not-expired c.args.moment c.args.domain.now (sym c.expiry_of.ensures ∙ c.in_err-end.was) c.secs.ensures.range.0 c.secs-2.ensures.range.1
