use Rattle.sqltables.proofs.QueryLemmas.{asks-by, bound-last, domains_until_due}
use Rattle.sqltables.proofs.store.RowStore.domains_until_due.Goals as goal

pub select-requires : goal.select-requires
select-requires g c = (_, asks-by (bound-last c.params-to_sql.ensures) (domains_until_due c.args.due))

pub returns : goal.returns
returns g c = c.select.ensures _ (asks-by (bound-last c.params-to_sql.ensures) (domains_until_due c.args.due))
