use Rattle.sqltables.proofs.QueryLemmas.{asks-by, bound-last, pending_transfers_by_losing}
use Rattle.sqltables.proofs.store.RowStore.pending_transfers_by_losing.Goals as goal

pub select-requires : goal.select-requires
select-requires g c = (_, asks-by (bound-last c.params-to_sql.ensures) (pending_transfers_by_losing c.args.losing))

pub returns : goal.returns
returns g c = c.select.ensures _ (asks-by (bound-last c.params-to_sql.ensures) (pending_transfers_by_losing c.args.losing))
