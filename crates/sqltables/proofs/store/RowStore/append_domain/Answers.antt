use Rattle.sqlrows.proofs.ParameterLemmas.{past_first}
use Rattle.sqltables.proofs.WritingLemmas.{appends-by, append_domain}
use Rattle.sqltables.proofs.store.RowStore.append_domain.Goals as goal

pub run-requires-clause-means : goal.run-requires-clause-means
run-requires-clause-means g c = (_, (appends-by (past_first c.params.result _ c.params.ensures 14) (append_domain c.args.domain.now)).alters)

pub returns-clause-made : goal.returns-clause-made
returns-clause-made g c = c.run.ensures.made _ (appends-by (past_first c.params.result _ c.params.ensures 14) (append_domain c.args.domain.now)).alters

pub returns-clause-numbered : goal.returns-clause-numbered
returns-clause-numbered g c = c.run.ensures.numbered _ _ (appends-by (past_first c.params.result _ c.params.ensures 14) (append_domain c.args.domain.now))
