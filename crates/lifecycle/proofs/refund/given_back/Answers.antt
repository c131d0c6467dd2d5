use Rattle.lifecycle.proofs.RefundLaws.{is-given-back}
use Rattle.lifecycle.proofs.refund.given_back.Goals as goal

pub returns : goal.returns
returns c = is-given-back c.args.policy.now c.args.refund.now _ c.back_of.result c.back_of.ensures
