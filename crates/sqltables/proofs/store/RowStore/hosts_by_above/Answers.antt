use Rattle.sqltables.proofs.QueryLemmas.{asks-by, bound-last, hosts_by_above}
use Rattle.sqltables.proofs.store.RowStore.hosts_by_above.Goals as goal

pub select-requires : goal.select-requires
select-requires g c = (_, asks-by (bound-last c.params-to_sql.ensures) (hosts_by_above c.args.above.now))

pub returns : goal.returns
returns g c = c.select.ensures _ (asks-by (bound-last c.params-to_sql.ensures) (hosts_by_above c.args.above.now))
