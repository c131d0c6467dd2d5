use Rattle.rdap.proofs.RequestLemmas.{unreadable}
use Rattle.rdap.proofs.request.plain_path.Goals as goal

pub returns-in-Err : goal.returns-in-Err
returns-in-Err c = unreadable c.args.path.now c.in-Err.ensures.cases.0
