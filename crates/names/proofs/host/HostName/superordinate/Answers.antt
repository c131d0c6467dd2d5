use Rattle.std.proofs.Common.{◌∙◌, sym}
use Rattle.names.proofs.SuperordinateLemmas.{IsStable-superordinate_of}
use Rattle.names.proofs.host.HostName.superordinate.Goals as goal

pub from_canonical-requires : goal.from_canonical-requires
from_canonical-requires c = IsStable-superordinate_of c.args.zone.now c.self.inside.text c.in-Some.text c.self.invariant (sym c.in_ok-text.ensures ∙ c.in-Some.is)
