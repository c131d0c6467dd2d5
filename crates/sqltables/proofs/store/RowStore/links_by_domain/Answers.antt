use Rattle.sqltables.proofs.QueryLemmas.{asks-by, bound-last, links_by_domain}
use Rattle.sqltables.proofs.store.RowStore.links_by_domain.Goals as goal

pub select-requires : goal.select-requires
select-requires g c = (_, asks-by (bound-last c.params-to_sql.ensures) (links_by_domain c.args.domain))

pub returns : goal.returns
returns g c = c.select.ensures _ (asks-by (bound-last c.params-to_sql.ensures) (links_by_domain c.args.domain))
