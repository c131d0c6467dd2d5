use Rattle.sqltables.proofs.WritingLemmas.{alters-by, bound-last, remove_transfers_by_contact}
use Rattle.sqltables.proofs.store.RowStore.remove_transfers_by_contact.Goals as goal

pub write-requires-clause-means : goal.write-requires-clause-means
write-requires-clause-means g c = (_, alters-by (bound-last c.params-to_sql.ensures) (remove_transfers_by_contact c.args.contact))

pub returns : goal.returns
returns g c = c.write.ensures _ (alters-by (bound-last c.params-to_sql.ensures) (remove_transfers_by_contact c.args.contact))
