use Rattle.basis.proofs.TextLemmas.{text_none, text_some}
use Rattle.basis.proofs.text.text_in.Goals as goal

pub returns-in-Ok : goal.returns-in-Ok
returns-in-Ok c = text_some _ _ c.in-Ok.ensures.cases.0 c.in-Ok.ensures.cases.1

pub returns-in-Err : goal.returns-in-Err
returns-in-Err c = text_none _ c.in-Err.ensures.cases.0
