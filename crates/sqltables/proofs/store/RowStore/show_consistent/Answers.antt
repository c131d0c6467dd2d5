use Rattle.std.proofs.Common.{◌≡◌, true, subst}
use Rattle.sqltables.proofs.{Words.{Content, IsConsistent, state, StateOf}, StandingLemmas.both, ConsistencyLemmas.consistent}
use Rattle.sqltables.proofs.store.RowStore.show_consistent.Goals as goal

pub returns : goal.returns
returns g c =
    let s = state g.S.Store c.self.inside.conn in
    subst (λ (it : StateOf Content). it.is_clean ≡ true → IsConsistent it.content) c.self.view_is (λ e.
    let p = both s e in
    consistent c.self.inside.form s.now s.committed (c.self.invariant.0 p.0 p.1).bears (c.schema-schema.ensures.live p.1).0)
