use Rattle.sqltables.proofs.QueryLemmas.{asks-by, bound-last, first_messages_by_account}
use Rattle.sqltables.proofs.store.RowStore.first_messages_by_account.Goals as goal

pub select-requires : goal.select-requires
select-requires g c = (_, asks-by (bound-last c.params-to_sql.ensures) (first_messages_by_account c.args.account))

pub returns : goal.returns
returns g c = c.select.ensures _ (asks-by (bound-last c.params-to_sql.ensures) (first_messages_by_account c.args.account))
