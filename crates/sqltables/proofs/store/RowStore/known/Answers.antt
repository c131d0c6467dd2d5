use Rattle.std.proofs.Common.{IfSome, sym, subst, ◌∙◌}
use Rattle.sqltables.proofs.{Words.{Content, Finds, leaves_of, state, StateOf}, AnswerLemmas.recalled}
use Rattle.sqltables.proofs.store.RowStore.known.Goals as goal

pub returns : goal.returns
returns g c f asks =
    let inside = c.self.inside in
    let rows = sym c.has_rows.ensures ∙ c.if-not-has_rows.false in
    subst (λ (t : StateOf Content). IfSome c.find.result (λ found. Finds found (f t.content) t t)) c.self.view_is
    (recalled inside.form inside.begun (state g.S.Store inside.conn) (leaves_of (state g.S.Store) inside.left.items) inside.answers c.self.invariant.0 rows c.self.invariant.2 f c.find.result
    (λ db xs right is. c.find.ensures c.args.tree f db xs asks right is))
