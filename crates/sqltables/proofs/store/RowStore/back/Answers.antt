use Rattle.std.proofs.Common.{false, sym, subst, true≢false}
use Rattle.sqltables.proofs.Words.{Closes, Content, Fits, Form, leaves_of, state, StateOf, store_state}
use Rattle.sqltables.proofs.{StandingLemmas.{guards-on, leaves-no-more}, TurningLemmas.{closes-back, fits-back}}
use Rattle.sqltables.proofs.store.RowStore.back.Goals as goal

pub invariant_of-self : goal.invariant_of-self
invariant_of-self g c =
    let old = state g.S.Store c.self.inside.conn in
    let new = state g.S.Store c.rollback.new.conn in
    let leaves = leaves_of (state g.S.Store) c.self.inside.left.items in (
      subst (λ (f : Form). Fits f false new) (sym c.undone-self-inside.ensures)
          (fits-back (state g.S.Store) c.self.inside.form c.self.inside.begun c.self.inside.conn c.rollback.new.conn _ c.rollback.ensures.crash c.self.invariant.0 c.rollback.ensures.does leaves),
      guards-on c.self.inside.begun false old new _ leaves c.rollback.ensures.crash c.self.invariant.1 (λ clean e. absurd (true≢false (sym e))) (leaves-no-more old new c.rollback.ensures.crash),
      λ _ _. c.forget.ensures.right _,
    )

pub returns : goal.returns
returns g c =
    let new = state g.S.Store c.rollback.new.conn in
    let leaves = leaves_of (state g.S.Store) c.self.inside.left.items in
    let it = closes-back (state g.S.Store) c.self.inside.form c.self.inside.begun c.self.inside.conn c.rollback.new.conn _ c.rollback.ensures.crash c.self.invariant.0 c.rollback.ensures.does leaves in
    let was = store_state c.self.inside.form c.self.inside.begun (state g.S.Store c.self.inside.conn) leaves in
    subst (λ (s : StateOf Content). Closes s.before s (store_state c.undone-self-inside.result false new leaves)) c.self.view_is
    (subst (λ (f : Form). Closes was.before was (store_state f false new leaves)) (sym c.undone-self-inside.ensures) it)
