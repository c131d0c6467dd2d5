use Rattle.memory.proofs.EndLemmas.{EndsUnder-opened}
use Rattle.memory.proofs.scripts.run_under.Goals as goal

pub returns-in-Ok : goal.returns-in-Ok
returns-in-Ok g c = EndsUnder-opened _ _ _ _ _ _ _ c.in-Ok.ensures.policy c.in-Ok.ensures.start c.run_over.ensures
