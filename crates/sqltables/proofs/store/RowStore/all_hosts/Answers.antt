use Rattle.sqltables.proofs.QueryLemmas.{all_hosts}
use Rattle.sqltables.proofs.store.RowStore.all_hosts.Goals as goal

pub select-requires : goal.select-requires
select-requires g c = (_, all_hosts)

pub returns : goal.returns
returns g c = c.select.ensures _ all_hosts
