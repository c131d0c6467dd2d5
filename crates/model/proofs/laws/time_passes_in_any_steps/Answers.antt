use Rattle.model.proofs.{LapseLaws.{have-one-future, lapses-on, lapses-on-from-some}, OneByOneLemmas.lapses-on-from-each}
use Rattle.model.proofs.laws.time_passes_in_any_steps.Goals as goal

pub returns : goal.returns
returns c = record { on = lapses-on; on_from_some = lapses-on-from-some; on_from_each = lapses-on-from-each; one_future = have-one-future }
