use Rattle.sqltables.proofs.QueryLemmas.{asks-by, bound-last, bound-then, domains_by_roid}
use Rattle.sqltables.proofs.store.RowStore.domains_by_roid.Goals as goal

pub select-requires : goal.select-requires
select-requires g c = (_, asks-by (bound-then c.params-to_sql.ensures (bound-last c.params-to_sql-2.ensures)) (domains_by_roid c.args.creator c.args.serial))

pub returns : goal.returns
returns g c = c.select.ensures _ (asks-by (bound-then c.params-to_sql.ensures (bound-last c.params-to_sql-2.ensures)) (domains_by_roid c.args.creator c.args.serial))
