use Rattle.sqlrows.proofs.ParameterLemmas.{past_first}
use Rattle.sqltables.proofs.WritingLemmas.{alters-by, append_day}
use Rattle.sqltables.proofs.store.RowStore.append_day.Goals as goal

pub write-requires-clause-means : goal.write-requires-clause-means
write-requires-clause-means g c = (_, alters-by (past_first c.params.result _ c.params.ensures 10) (append_day c.args.day.now))

pub returns : goal.returns
returns g c = c.write.ensures _ (alters-by (past_first c.params.result _ c.params.ensures 10) (append_day c.args.day.now))
