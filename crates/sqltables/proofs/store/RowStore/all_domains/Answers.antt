use Rattle.sqltables.proofs.QueryLemmas.{all_domains}
use Rattle.sqltables.proofs.store.RowStore.all_domains.Goals as goal

pub select-requires : goal.select-requires
select-requires g c = (_, all_domains)

pub returns : goal.returns
returns g c = c.select.ensures _ all_domains
