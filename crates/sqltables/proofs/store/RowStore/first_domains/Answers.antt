use Rattle.sqltables.proofs.QueryLemmas.{asks-by, bound-last, first_domains}
use Rattle.sqltables.proofs.store.RowStore.first_domains.Goals as goal

pub select-requires : goal.select-requires
select-requires g c = (_, asks-by (bound-last c.params-to_sql.ensures) (first_domains c.args.at_most))

pub returns : goal.returns
returns g c = c.select.ensures _ (asks-by (bound-last c.params-to_sql.ensures) (first_domains c.args.at_most))
