use Rattle.names.proofs.ZoneLemmas.{cut_last-rsplit_once}
use Rattle.names.proofs.zone.cut_last.Goals as goal

pub returns : goal.returns
returns c = cut_last-rsplit_once c.args.name.now _ c.rsplit_once.ensures.cases
