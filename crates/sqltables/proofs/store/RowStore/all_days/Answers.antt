use Rattle.sqltables.proofs.QueryLemmas.{all_days}
use Rattle.sqltables.proofs.store.RowStore.all_days.Goals as goal

pub select-requires : goal.select-requires
select-requires g c = (_, all_days)

pub returns : goal.returns
returns g c = c.select.ensures _ all_days
