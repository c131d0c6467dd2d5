use Rattle.sqltables.proofs.WritingLemmas.{alters-by, bound-last, remove_addresses_by_host}
use Rattle.sqltables.proofs.store.RowStore.remove_addresses_by_host.Goals as goal

pub write-requires-clause-means : goal.write-requires-clause-means
write-requires-clause-means g c = (_, alters-by (bound-last c.params-to_sql.ensures) (remove_addresses_by_host c.args.host))

pub returns : goal.returns
returns g c = c.write.ensures _ (alters-by (bound-last c.params-to_sql.ensures) (remove_addresses_by_host c.args.host))
