use Rattle.std.proofs.Common.{ap, subst, ◌∙◌}
use Rattle.sqlbook.proofs.Words.{Content, Covers, StateOf}
use Rattle.sqlite.specs.Held.{state}
use Rattle.sqlbook.proofs.book.into_connection.Goals as goal

pub returns-clause-covers : goal.returns-clause-covers
returns-clause-covers g c clean =
    subst (λ (rows : StateOf Content). Covers rows.crash_leaves (state g.S.Store c.into_connection.result).may_leave) (c.into_rows.ensures ∙ ap (λ r. r.store) c.into_records.ensures) (c.into_connection.ensures.covers clean)
