use Rattle.bookfiles.proofs.UnopenedLemmas.{cause-alone}
use Rattle.bookfiles.proofs.files.registry_in.Goals as goal

pub returns : goal.returns
returns g c = record { opened = cause-alone c.open_in.result c.or_cause.result _ c.or_cause.ensures c.open_in.ensures.opened }
