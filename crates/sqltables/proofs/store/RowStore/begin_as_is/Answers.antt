use Rattle.std.proofs.Common.{Bool, false, true, sym, ap, subst, ◌∙◌, true≢false}
use Rattle.sqltables.proofs.Words.{begin_leaves, Content, leaves_of, Recalls, Starts, state, StateOf, Stays, store_state}
use Rattle.sqltables.proofs.StandingLemmas.{guards-on, as-begun, leaves-no-more}
use Rattle.sqltables.proofs.TurningLemmas.{fits-begun, fits-not-begun, guards-begun, recalls-begun, starts, stays-not-begun}
use Rattle.sqltables.proofs.store.RowStore.begin_as_is.Goals as goal

pub invariant_of-self : goal.invariant_of-self
invariant_of-self g c =
    let leaves = leaves_of (state g.S.Store) c.self.inside.left.items in
    let was = as-begun _ _ _ _ _ _ (ap (λ (s : StateOf Content). s.is_open) c.self.view_is ∙ c.requires) c.self.invariant in
    let crash = begin_leaves _ _ c.execute.ensures.survives in (
      fits-begun _ _ _ _ crash leaves was.0 _ c.in-Ok.ensures.runs,
      guards-begun _ _ _ _ crash leaves was.0 _ c.in-Ok.ensures.runs (λ db none. none) was.1,
      subst (Recalls (state g.S.Store c.execute.new.self)) (sym c.forget_passing.ensures) (recalls-begun _ _ _ _ crash leaves was.0 _ c.in-Ok.ensures.runs _ was.2),
    )

pub invariant_of-self-in-Err : goal.invariant_of-self-in-Err
invariant_of-self-in-Err g c =
    let leaves = leaves_of (state g.S.Store) c.self.inside.left.items in
    let begun = ap (λ (s : StateOf Content). s.is_open) c.self.view_is ∙ c.requires in
    let was = as-begun _ _ _ _ _ _ begun c.self.invariant in
    let crash = begin_leaves _ _ c.execute.ensures.survives in
    as-begun _ _ _ _ _ _ (sym begun) (
      fits-not-begun _ _ _ _ crash leaves was.0 c.in-Err.error c.in-Err.ensures.runs,
      guards-on _ _ _ _ _ _ crash was.1 (λ clean e. absurd (true≢false (sym e))) (leaves-no-more _ _ crash),
      λ _ _. c.forget.ensures.right _,
    )

pub returns-in-Ok : goal.returns-in-Ok
returns-in-Ok g c =
    let form = c.self.inside.form in
    let leaves = leaves_of (state g.S.Store) c.self.inside.left.items in
    let begun = ap (λ (s : StateOf Content). s.is_open) c.self.view_is ∙ c.requires in
    let was = as-begun _ _ _ _ _ _ begun c.self.invariant in
    subst (λ (s : StateOf Content). Starts s (store_state form true (state g.S.Store c.execute.new.self) leaves)) (ap (λ (b : Bool). store_state form b (state g.S.Store c.self.inside.conn) leaves) (sym begun) ∙ c.self.view_is)
    (starts _ _ _ _ c.execute.ensures.survives leaves was.0 _ c.in-Ok.ensures.runs)

pub returns-in-Err : goal.returns-in-Err
returns-in-Err g c =
    let old = state g.S.Store c.self.inside.conn in
    let new = state g.S.Store c.execute.new.self in
    let form = c.self.inside.form in
    let leaves = leaves_of (state g.S.Store) c.self.inside.left.items in
    let begun = ap (λ (s : StateOf Content). s.is_open) c.self.view_is ∙ c.requires in
    let was = as-begun _ _ _ _ _ _ begun c.self.invariant in
    subst (λ (s : StateOf Content). Stays s (store_state form c.self.inside.begun new leaves)) (ap (λ (b : Bool). store_state form b old leaves) (sym begun) ∙ c.self.view_is)
    (subst (λ (b : Bool). Stays (store_state form false old leaves) (store_state form b new leaves)) (sym begun) (stays-not-begun _ _ _ _ c.execute.ensures.survives leaves was.0 c.in-Err.error c.in-Err.ensures.runs))
