use Rattle.model.proofs.StandardLemmas.{registries-meet-standards}
use Rattle.model.proofs.laws.registries_meet_standards.Goals as goal

pub returns : goal.returns
returns c = registries-meet-standards
