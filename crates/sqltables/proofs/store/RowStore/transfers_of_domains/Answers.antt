use Rattle.sqltables.proofs.QueryLemmas.{asks-by, bound-last, bound-then, transfers_of_domains}
use Rattle.sqltables.proofs.store.RowStore.transfers_of_domains.Goals as goal

pub select-requires : goal.select-requires
select-requires g c = (_, asks-by (bound-then c.params-to_sql.ensures (bound-last c.params-to_sql-2.ensures)) (transfers_of_domains c.args.first c.args.last))

pub returns : goal.returns
returns g c = c.select.ensures _ (asks-by (bound-then c.params-to_sql.ensures (bound-last c.params-to_sql-2.ensures)) (transfers_of_domains c.args.first c.args.last))
