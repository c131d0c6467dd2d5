use Rattle.sqltables.proofs.QueryLemmas.{asks-by, bound-last, bound-then, domains_by_sponsor_until_due}
use Rattle.sqltables.proofs.store.RowStore.domains_by_sponsor_until_due.Goals as goal

pub select-requires : goal.select-requires
select-requires g c = (_, asks-by (bound-then c.params-to_sql.ensures (bound-last c.params-to_sql-2.ensures)) (domains_by_sponsor_until_due c.args.sponsor c.args.due))

pub returns : goal.returns
returns g c = c.select.ensures _ (asks-by (bound-then c.params-to_sql.ensures (bound-last c.params-to_sql-2.ensures)) (domains_by_sponsor_until_due c.args.sponsor c.args.due))
