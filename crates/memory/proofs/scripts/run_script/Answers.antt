use Rattle.memory.proofs.EndLemmas.{EndsByFile-read}
use Rattle.memory.proofs.scripts.run_script.Goals as goal

pub returns-in-Ok : goal.returns-in-Ok
returns-in-Ok g c = EndsByFile-read _ _ _ _ _ _ c.in-Ok.ensures.read c.run_under.ensures
