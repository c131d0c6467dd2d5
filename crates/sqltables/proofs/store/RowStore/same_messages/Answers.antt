use Rattle.sqlrows.proofs.ParameterLemmas.{past_first}
use Rattle.sqltables.proofs.QueryLemmas.{asks-by, same_messages}
use Rattle.sqltables.proofs.store.RowStore.same_messages.Goals as goal

pub select-requires : goal.select-requires
select-requires g c = (_, asks-by (past_first c.params.result _ c.params.ensures 7) (same_messages c.args.message.now))

pub returns : goal.returns
returns g c = c.select.ensures _ (asks-by (past_first c.params.result _ c.params.ensures 7) (same_messages c.args.message.now))
