use Rattle.std.proofs.Common.{◌∙◌}
use Rattle.lifecycle.proofs.RefundLaws.{given_back-on}
use Rattle.lifecycle.proofs.refund.all_back_by.Goals as goal

pub returns : goal.returns
returns c = c.all_back.ensures ∙ given_back-on c.args.policy.now c.args.refund.now c.on.result.now c.args.lines.now c.on.ensures
