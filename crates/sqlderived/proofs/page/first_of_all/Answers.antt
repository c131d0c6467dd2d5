use Rattle.std.proofs.Common.{take, ap, ◌∙◌}
use Rattle.sqlderived.proofs.page.first_of_all.Goals as goal

pub returns : goal.returns
returns g c =
    let all = c.in_ok-all.ensures {u = tt} in
    (all.0, λ clean right. c.first_of.ensures ∙ ap (take c.args.most) (all.1 clean right))
