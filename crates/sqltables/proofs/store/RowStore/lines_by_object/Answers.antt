use Rattle.sqltables.proofs.QueryLemmas.{asks-by, bound-last, bound-then, lines_by_object}
use Rattle.sqltables.proofs.store.RowStore.lines_by_object.Goals as goal

pub select-requires : goal.select-requires
select-requires g c = (_, asks-by (bound-then c.params-to_sql.ensures (bound-then c.params-to_sql-2.ensures (bound-last c.params-to_sql-3.ensures))) (lines_by_object c.args.account c.args.creator c.args.serial))

pub returns : goal.returns
returns g c = c.select.ensures _ (asks-by (bound-then c.params-to_sql.ensures (bound-then c.params-to_sql-2.ensures (bound-last c.params-to_sql-3.ensures))) (lines_by_object c.args.account c.args.creator c.args.serial))
