use Rattle.lifecycle.proofs.DueLaws.{lapse-result}
use Rattle.lifecycle.proofs.domain.lapse.Goals as goal

pub returns : goal.returns
returns c = lapse-result c.args.policy.now c.args.moment c.args.domain.now _ c.lapse_any.ensures
