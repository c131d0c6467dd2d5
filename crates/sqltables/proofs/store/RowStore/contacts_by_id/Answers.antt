use Rattle.sqltables.proofs.QueryLemmas.{asks-by, bound-last, contacts_by_id}
use Rattle.sqltables.proofs.store.RowStore.contacts_by_id.Goals as goal

pub select-requires : goal.select-requires
select-requires g c = (_, asks-by (bound-last c.params-to_sql.ensures) (contacts_by_id c.args.id))

pub returns : goal.returns
returns g c = c.select.ensures _ (asks-by (bound-last c.params-to_sql.ensures) (contacts_by_id c.args.id))
