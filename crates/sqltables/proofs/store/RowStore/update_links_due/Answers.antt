use Rattle.sqltables.proofs.WritingLemmas.{alters-by, bound-last, bound-then, update_links_due}
use Rattle.sqltables.proofs.store.RowStore.update_links_due.Goals as goal

pub write-requires-clause-means : goal.write-requires-clause-means
write-requires-clause-means g c = (_, alters-by (bound-then c.params-to_sql.ensures (bound-last c.params-to_sql-2.ensures)) (update_links_due c.args.domain c.args.due))

pub returns : goal.returns
returns g c = c.write.ensures _ (alters-by (bound-then c.params-to_sql.ensures (bound-last c.params-to_sql-2.ensures)) (update_links_due c.args.domain c.args.due))
