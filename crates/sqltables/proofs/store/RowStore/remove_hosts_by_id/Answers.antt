use Rattle.sqltables.proofs.WritingLemmas.{alters-by, bound-last, remove_hosts_by_id}
use Rattle.sqltables.proofs.store.RowStore.remove_hosts_by_id.Goals as goal

pub write-requires-clause-means : goal.write-requires-clause-means
write-requires-clause-means g c = (_, alters-by (bound-last c.params-to_sql.ensures) (remove_hosts_by_id c.args.id))

pub returns : goal.returns
returns g c = c.write.ensures _ (alters-by (bound-last c.params-to_sql.ensures) (remove_hosts_by_id c.args.id))
