use Rattle.std.proofs.Common.{◌∙◌, sym}
use Rattle.lifecycle.proofs.DueLaws.{due-steps}
use Rattle.lifecycle.proofs.due.due_at.Goals as goal

pub returns : goal.returns
returns c =
    due-steps c.args.policy.now c.args.domain.now _ _ _ c.in_default.is (sym c.completes_at.ensures ∙ c.in-Some-completes_at.is)
    c.expiry_of-end.ensures c.earlier.ensures c.secs.ensures.range.0 c.secs-2.ensures.range
