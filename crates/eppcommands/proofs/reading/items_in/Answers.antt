use Rattle.eppcommands.proofs.Items.{items_in-found}
use Rattle.eppcommands.proofs.reading.items_in.Goals as goal

pub returns : goal.returns
returns c = rw c.ok_or.ensures.value (items_in-found (λ v. v.now.items) c.as_array.result _ c.as_array.ensures)
