use Rattle.sqlrows.proofs.ParameterLemmas.{past_first}
use Rattle.sqltables.proofs.WritingLemmas.{appends-by, append_contact}
use Rattle.sqltables.proofs.store.RowStore.append_contact.Goals as goal

pub run-requires-clause-means : goal.run-requires-clause-means
run-requires-clause-means g c = (_, (appends-by (past_first c.params.result _ c.params.ensures 19) (append_contact c.args.contact.now)).alters)

pub returns-clause-made : goal.returns-clause-made
returns-clause-made g c = c.run.ensures.made _ (appends-by (past_first c.params.result _ c.params.ensures 19) (append_contact c.args.contact.now)).alters

pub returns-clause-numbered : goal.returns-clause-numbered
returns-clause-numbered g c = c.run.ensures.numbered _ _ (appends-by (past_first c.params.result _ c.params.ensures 19) (append_contact c.args.contact.now))
