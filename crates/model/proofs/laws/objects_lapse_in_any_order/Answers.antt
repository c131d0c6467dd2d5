use Rattle.model.proofs.LapseLaws.{all-due-lapse-as-all, some-lapse-in-any-order, some-lapse-together}
use Rattle.model.proofs.OneByOneLemmas.{each-due-lapses-as-all, each-lapses-as-some}
use Rattle.model.proofs.laws.objects_lapse_in_any_order.Goals as goal

pub returns : goal.returns
returns c = record { together = some-lapse-together; any_order = some-lapse-in-any-order; each = each-lapses-as-some; all_due = all-due-lapse-as-all; each_due = each-due-lapses-as-all }
