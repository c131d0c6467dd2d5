use Rattle.script.proofs.LineLemmas.{no_moment}
use Rattle.script.proofs.line.moment_in.Goals as goal

pub returns-in-None-clause-only : goal.returns-in-None-clause-only
returns-in-None-clause-only c m range written = absurd (no_moment _ m c.in-None.ensures range written)
