use Rattle.memory.proofs.EndLemmas.{Ends-clean}
use Rattle.memory.proofs.scripts.run_over.Goals as goal

pub returns : goal.returns
returns g c = Ends-clean _ _ _ _ _ _ _ _ c.run_on-exit.ensures.ends c.show_clean.ensures
