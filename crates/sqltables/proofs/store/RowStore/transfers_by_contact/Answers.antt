use Rattle.sqltables.proofs.QueryLemmas.{asks-by, bound-last, transfers_by_contact}
use Rattle.sqltables.proofs.store.RowStore.transfers_by_contact.Goals as goal

pub select-requires : goal.select-requires
select-requires g c = (_, asks-by (bound-last c.params-to_sql.ensures) (transfers_by_contact c.args.contact))

pub returns : goal.returns
returns g c = c.select.ensures _ (asks-by (bound-last c.params-to_sql.ensures) (transfers_by_contact c.args.contact))
