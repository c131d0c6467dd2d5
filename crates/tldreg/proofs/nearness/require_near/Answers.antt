use Rattle.tldreg.proofs.nearness.require_near.Goals as goal

pub returns-clause-near : goal.returns-clause-near
returns-clause-near g c =
    let step = rw c.first.ensures at c.greet.ensures.step in
    (c.greet.result, c.near_end.ensures, step, c.greet.ensures.fault)

pub returns-clause-policy : goal.returns-clause-policy
returns-clause-policy g c = c.greet.ensures.keeps.policy
