use Rattle.bookfiles.proofs.UnopenedLemmas.{cause-alone}
use Rattle.bookfiles.proofs.connection.connection_in.Goals as goal

pub returns-clause-finds : goal.returns-clause-finds
returns-clause-finds g c = cause-alone c.connect.result c.or_cause.result _ c.or_cause.ensures c.connect.ensures.finds

pub returns-clause-found : goal.returns-clause-found
returns-clause-found g c = cause-alone c.connect.result c.or_cause.result _ c.or_cause.ensures c.connect.ensures.found
