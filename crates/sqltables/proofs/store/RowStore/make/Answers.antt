use Rattle.std.proofs.Common.{Bool, false, true, IsTrue, sym, ap, subst, ◌∙◌}
use Rattle.sqltables.proofs.Words.{AgreesWithForm, Content, Fits, Form, HasCleanDisk, IsContent, leaves_of, Making, no_content}
use Rattle.sqltables.proofs.Words.{state, StateOf, Stays, store_state, Unused, Writes}
use Rattle.sqltables.proofs.MakingLemmas.{back-or-same, fits-made, fits-unmade, guards-made, guards-unmade, makes-made, stays-unmade}
use Rattle.sqltables.proofs.StandingLemmas.{as-begun}
use Rattle.sqlrows.specs.inner.Calls as calls
use Rattle.sqltables.proofs.store.RowStore.make.Goals as goal

pub invariant_of-self : goal.invariant_of-self
invariant_of-self g c =
    let old = state g.S.Store c.self.inside.conn in
    let mid = state g.S.Store c.create.new.conn in
    let leaves = leaves_of (state g.S.Store) c.self.inside.left.items in
    let begun = ap (λ (s : StateOf Content). s.is_open) c.self.view_is ∙ c.requires in
    let was = as-begun _ _ _ _ _ _ begun c.self.invariant in
    let fits = subst (λ (f : Form). Fits f true old) c.in-Unused.is was.0 in
    let made : (HasCleanDisk mid → IsTrue old.is_open → AgreesWithForm Unused true old → IsContent no_content mid.now × calls.StaysOpen old mid) =
    λ clean opened it. (c.in-Ok.ensures.empty it.bears.0 opened it.mode clean, (c.in-Ok.ensures.makes it.bears.0 opened it.mode clean).made.1) in
    as-begun _ _ _ _ _ _ (sym begun) (
      fits-made _ _ _ c.create.ensures.steady fits c.create.ensures.opened leaves made,
      guards-made _ _ _ c.create.ensures.steady fits c.create.ensures.opened leaves made (λ clean opened it. (c.in-Ok.ensures.makes it.bears.0 opened it.mode clean).crash) was.1,
      λ _ _. c.forget.ensures.right _,
    )

pub invariant_of-self-in-Err : goal.invariant_of-self-in-Err
invariant_of-self-in-Err g c =
    let old = state g.S.Store c.self.inside.conn in
    let new = state g.S.Store c.rollback.new.conn in
    let leaves = leaves_of (state g.S.Store) c.self.inside.left.items in
    let was = as-begun _ _ _ _ _ _ (ap (λ (s : StateOf Content). s.is_open) c.self.view_is ∙ c.requires) c.self.invariant in
    let fits = subst (λ (f : Form). Fits f true old) c.in-Unused.is was.0 in
    let does = back-or-same (state g.S.Store) c.create.new.conn c.rollback.new.conn c.rollback.ensures.does in (
      subst (λ (f : Form). Fits f false new) (sym c.in-Unused.is)
          (fits-unmade _ _ _ c.create.ensures.steady fits c.create.ensures.opened leaves (λ clean opened it. (c.in-Err.ensures.makes it.bears.0 opened it.mode clean).err) _ _ c.rollback.ensures.crash does),
      guards-unmade _ _ _ c.create.ensures.steady fits c.create.ensures.opened leaves (λ clean opened it. (c.in-Err.ensures.makes it.bears.0 opened it.mode clean).err) _ _ c.rollback.ensures.crash does
          (λ clean opened it. (c.in-Err.ensures.makes it.bears.0 opened it.mode clean).crash) (λ db none. none) was.1,
      λ _ _. c.forget.ensures.right _,
    )

pub returns-in-Ok : goal.returns-in-Ok
returns-in-Ok g c =
    let old = state g.S.Store c.self.inside.conn in
    let mid = state g.S.Store c.create.new.conn in
    let leaves = leaves_of (state g.S.Store) c.self.inside.left.items in
    let begun = ap (λ (s : StateOf Content). s.is_open) c.self.view_is ∙ c.requires in
    let fits = subst (λ (f : Form). Fits f true old) c.in-Unused.is (as-begun _ _ _ _ _ _ begun c.self.invariant).0 in
    let was = ap (λ (f : Form). store_state f true old leaves) (sym c.in-Unused.is) ∙ ap (λ (b : Bool). store_state c.self.inside.form b old leaves) (sym begun) ∙ c.self.view_is in
    subst (λ (s : StateOf Content). Writes s.content s (store_state Making c.self.inside.begun mid leaves)) was
    (subst (λ (b : Bool). Writes no_content (store_state Unused true old leaves) (store_state Making b mid leaves)) (sym begun)
    (makes-made _ _ _ c.create.ensures.steady fits c.create.ensures.opened leaves (λ clean opened it. (c.in-Ok.ensures.empty it.bears.0 opened it.mode clean, (c.in-Ok.ensures.makes it.bears.0 opened it.mode clean).made.1))))

pub returns-in-Err : goal.returns-in-Err
returns-in-Err g c =
    let old = state g.S.Store c.self.inside.conn in
    let new = state g.S.Store c.rollback.new.conn in
    let leaves = leaves_of (state g.S.Store) c.self.inside.left.items in
    let begun = ap (λ (s : StateOf Content). s.is_open) c.self.view_is ∙ c.requires in
    let fits = subst (λ (f : Form). Fits f true old) c.in-Unused.is (as-begun _ _ _ _ _ _ begun c.self.invariant).0 in
    let was = ap (λ (f : Form). store_state f true old leaves) (sym c.in-Unused.is) ∙ ap (λ (b : Bool). store_state c.self.inside.form b old leaves) (sym begun) ∙ c.self.view_is in
    let does = back-or-same (state g.S.Store) c.create.new.conn c.rollback.new.conn c.rollback.ensures.does in
    subst (λ (s : StateOf Content). Stays s (store_state c.self.inside.form false new leaves)) was
    (subst (λ (f : Form). Stays (store_state Unused true old leaves) (store_state f false new leaves)) (sym c.in-Unused.is)
    (stays-unmade _ _ _ c.create.ensures.steady fits c.create.ensures.opened leaves (λ clean opened it. (c.in-Err.ensures.makes it.bears.0 opened it.mode clean).err) _ _ c.rollback.ensures.crash does))
