use Rattle.sqltables.proofs.WritingLemmas.{alters-by, put_host}
use Rattle.sqltables.proofs.store.RowStore.put_host.Goals as goal

pub write-requires-clause-means : goal.write-requires-clause-means
write-requires-clause-means g c = (_, alters-by c.params.ensures (put_host c.args.host.now))

pub returns : goal.returns
returns g c = c.write.ensures _ (alters-by c.params.ensures (put_host c.args.host.now))
