use Rattle.registry.proofs.PublicLemmas.{look-ups-are-public}
use Rattle.registry.proofs.laws.look_ups_are_public.Goals as goal

pub returns : goal.returns
returns c = look-ups-are-public
