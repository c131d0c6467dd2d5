use Rattle.sqltables.proofs.QueryLemmas.{asks-by, bound-last, bound-then, domains_after}
use Rattle.sqltables.proofs.store.RowStore.domains_after.Goals as goal

pub select-requires : goal.select-requires
select-requires g c = (_, asks-by (bound-then c.params-to_sql.ensures (bound-last c.params-to_sql-2.ensures)) (domains_after c.args.id c.args.at_most))

pub returns : goal.returns
returns g c = c.select.ensures _ (asks-by (bound-then c.params-to_sql.ensures (bound-last c.params-to_sql-2.ensures)) (domains_after c.args.id c.args.at_most))
