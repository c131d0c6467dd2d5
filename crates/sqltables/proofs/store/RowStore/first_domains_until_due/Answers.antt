use Rattle.sqltables.proofs.QueryLemmas.{asks-by, bound-last, bound-then, first_domains_until_due}
use Rattle.sqltables.proofs.store.RowStore.first_domains_until_due.Goals as goal

pub select-requires : goal.select-requires
select-requires g c = (_, asks-by (bound-then c.params-to_sql.ensures (bound-last c.params-to_sql-2.ensures)) (first_domains_until_due c.args.due c.args.at_most))

pub returns : goal.returns
returns g c = c.select.ensures _ (asks-by (bound-then c.params-to_sql.ensures (bound-last c.params-to_sql-2.ensures)) (first_domains_until_due c.args.due c.args.at_most))
