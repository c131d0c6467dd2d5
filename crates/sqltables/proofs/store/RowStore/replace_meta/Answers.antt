use Rattle.sqltables.proofs.WritingLemmas.{alters-by, replace_meta}
use Rattle.sqltables.proofs.store.RowStore.replace_meta.Goals as goal

pub write-requires-clause-means : goal.write-requires-clause-means
write-requires-clause-means g c = (_, alters-by c.params.ensures.bound (replace_meta c.args.meta.now))

pub returns : goal.returns
returns g c = c.write.ensures _ (alters-by c.params.ensures.bound (replace_meta c.args.meta.now))
