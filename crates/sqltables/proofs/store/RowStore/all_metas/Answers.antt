use Rattle.sqltables.proofs.QueryLemmas.{all_metas}
use Rattle.sqltables.proofs.store.RowStore.all_metas.Goals as goal

pub select-requires : goal.select-requires
select-requires g c = (_, all_metas)

pub returns : goal.returns
returns g c = c.select.ensures _ all_metas
