use Rattle.sqltables.proofs.WritingLemmas.{alters-by, bound-last, remove_links_by_domain}
use Rattle.sqltables.proofs.store.RowStore.remove_links_by_domain.Goals as goal

pub write-requires-clause-means : goal.write-requires-clause-means
write-requires-clause-means g c = (_, alters-by (bound-last c.params-to_sql.ensures) (remove_links_by_domain c.args.domain))

pub returns : goal.returns
returns g c = c.write.ensures _ (alters-by (bound-last c.params-to_sql.ensures) (remove_links_by_domain c.args.domain))
