use Rattle.sqltables.proofs.QueryLemmas.{asks-by, bound-last, lines_by_account}
use Rattle.sqltables.proofs.store.RowStore.lines_by_account.Goals as goal

pub select-requires : goal.select-requires
select-requires g c = (_, asks-by (bound-last c.params-to_sql.ensures) (lines_by_account c.args.account))

pub returns : goal.returns
returns g c = c.select.ensures _ (asks-by (bound-last c.params-to_sql.ensures) (lines_by_account c.args.account))
