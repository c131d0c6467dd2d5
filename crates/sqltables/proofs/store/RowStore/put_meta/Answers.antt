use Rattle.sqltables.proofs.WritingLemmas.{alters-by, put_meta}
use Rattle.sqltables.proofs.store.RowStore.put_meta.Goals as goal

pub write-requires-clause-means : goal.write-requires-clause-means
write-requires-clause-means g c = (_, alters-by c.params.ensures.bound (put_meta c.args.meta.now))

pub returns-then-not-has_only : goal.returns-then-not-has_only
returns-then-not-has_only g c = c.write.ensures _ (alters-by c.params.ensures.bound (put_meta c.args.meta.now))
