use Rattle.std.proofs.Common.{◌≡◌, ◌&&◌, Bool, true, false, sym, ap, subst, ◌∙◌, true≢false}
use Rattle.sqltables.proofs.Words.{Content, leaves_of, Reads, state, StateOf, Stays, store_state}
use Rattle.sqltables.proofs.StandingLemmas.{as-begun, fits-looked, guards-on, honest, leaves-no-more, prepared, reads-same, recalls-same, stays-looked}
use Rattle.sqltables.proofs.store.RowStore.look.Goals as goal

pub returns-then-self-clause-answers : goal.returns-then-self-clause-answers
returns-then-self-clause-answers g c =
    let s = state g.S.Store c.self.inside.conn in
    subst (λ (t : StateOf Content). t.is_honest ≡ true → t.is_clean ≡ true) c.self.view_is (λ e. ap (λ (b : Bool). b && s.is_open) e ∙ c.self.invariant.1.opened (honest s e) c.if-self.true)

pub invariant_of-self : goal.invariant_of-self
invariant_of-self g c =
    let was = as-begun _ _ _ _ _ _ c.if-self.false c.self.invariant in
    let survives = c.prepare.ensures.survives in
    as-begun _ _ _ _ _ _ (sym c.if-self.false) (
      fits-looked _ _ _ _ survives was.0 (prepared _ _ _ c.args.sql.now _ c.prepare.ensures.ok c.prepare.ensures.err),
      guards-on _ _ _ _ _ _ survives was.1 (λ clean e. absurd (true≢false (sym e))) (leaves-no-more _ _ survives),
      recalls-same _ _ _ _ survives (λ clean. (c.in-Ok.ensures.ok clean).1) was.2,
    )

pub invariant_of-self-in-Err : goal.invariant_of-self-in-Err
invariant_of-self-in-Err g c =
    let was = as-begun _ _ _ _ _ _ c.if-self.false c.self.invariant in
    let survives = c.prepare.ensures.survives in
    as-begun _ _ _ _ _ _ (sym c.if-self.false) (
      fits-looked _ _ _ _ survives was.0 (prepared _ _ _ c.args.sql.now _ c.prepare.ensures.ok c.prepare.ensures.err),
      guards-on _ _ _ _ _ _ survives was.1 (λ clean e. absurd (true≢false (sym e))) (leaves-no-more _ _ survives),
      λ _ _. c.forget.ensures.right _,
    )

pub returns-in-Err-clause-same : goal.returns-in-Err-clause-same
returns-in-Err-clause-same g c =
    let form = c.self.inside.form in
    let old = state g.S.Store c.self.inside.conn in
    let new = state g.S.Store c.prepare.new.self in
    let leaves = leaves_of (state g.S.Store) c.self.inside.left.items in
    let idle = c.if-self.false in
    let was = as-begun _ _ _ _ _ _ idle c.self.invariant in
    subst (λ (s : StateOf Content). Stays s (store_state form c.self.inside.begun new leaves)) (ap (λ (b : Bool). store_state form b old leaves) (sym idle) ∙ c.self.view_is)
    (subst (λ (b : Bool). Stays (store_state form false old leaves) (store_state form b new leaves)) (sym idle)
    (stays-looked _ _ _ _ c.prepare.ensures.survives was.0 (prepared _ _ _ c.args.sql.now _ c.prepare.ensures.ok c.prepare.ensures.err) leaves))

pub returns-clause-same : goal.returns-clause-same
returns-clause-same g c =
    let form = c.self.inside.form in
    let begun = c.self.inside.begun in
    let leaves = leaves_of (state g.S.Store) c.self.inside.left.items in (
      subst (λ (s : StateOf Content). Reads s (store_state form begun (state g.S.Store c.prepare.new.self) leaves)) c.self.view_is (reads-same form begun _ _ _ leaves c.prepare.ensures.survives (λ clean. (c.in-Ok.ensures.ok clean).1)),
      λ e. tt,
    )

pub returns-clause-answers : goal.returns-clause-answers
returns-clause-answers g c e =
    let new = state g.S.Store c.prepare.new.self in
    ap (λ (b : Bool). b && new.is_open) e ∙ (c.in-Ok.ensures.ok (honest new e)).1.0.is_open
