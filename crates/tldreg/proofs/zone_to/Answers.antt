use Rattle.tldreg.proofs.zone_to.Goals as goal

pub returns : goal.returns
returns g c = (c.zone_on.result, c.zone_end.ensures, c.zone_on.ensures.written, c.zone_on.ensures.begun, c.zone_on.ensures.passes)
