use Rattle.std.proofs.Common.{◌∙◌}
use Rattle.lifecycle.proofs.GraceLaws.{graces-on}
use Rattle.lifecycle.proofs.grace.graces_by.Goals as goal

pub returns : goal.returns
returns c = c.graces.ensures ∙ graces-on c.args.policy.now c.args.moment c.args.domain.now.roid c.args.domain.now.transferred c.on.result.now c.args.lines.now c.on.ensures
