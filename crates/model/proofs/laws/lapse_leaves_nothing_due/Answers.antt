use Rattle.model.proofs.LapseLaws.{lapsed-is-settled, settled-is-now}
use Rattle.model.proofs.laws.lapse_leaves_nothing_due.Goals as goal

pub returns : goal.returns
returns c = record { settles = lapsed-is-settled; stays = settled-is-now }
