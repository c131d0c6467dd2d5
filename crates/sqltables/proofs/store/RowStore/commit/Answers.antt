use Rattle.std.proofs.Common.{◌&&◌, Bool, false, true, inl, inr, List, [], ◌∷◌, ◌++◌, refl, sym, ap, subst, ◌∙◌}
use Rattle.sqltables.proofs.Words.{commit_leaves, committed, Content, Fails, Fits, Form, Guards, holding, leaves_of, left_in, Recalls, Remains}
use Rattle.sqltables.proofs.{Words.{state, StateOf, store_state}, StandingLemmas.{as-begun, honest}}
use Rattle.sqltables.proofs.TurningLemmas.{fails, fits-committed, fits-not-committed, guards-committed, guards-failed, holding-it, keeps, noted-alone, noted-more, recalls-committed}
use Rattle.states.specs.States.{Keeps}
use Rattle.sqltables.proofs.store.RowStore.commit.Goals as goal

pub returns-then-not-has_rows-clause-ends : goal.returns-then-not-has_rows-clause-ends
returns-then-not-has_rows-clause-ends g c =
    let s = state g.S.Store c.self.inside.conn in
    let begun = ap (λ (t : StateOf Content). t.is_open) c.self.view_is ∙ c.requires in
    subst (λ (t : StateOf Content). Fails t t) c.self.view_is (record {
      clean = λ e. e;
      before = λ e. refl;
      honest = λ e. e;
      answered = λ e. ap (λ (b : Bool). b && s.is_open) e ∙ c.self.invariant.1.opened (honest s e) begun;
      leaves = λ left h. inl h;
      ready = refl;
    })

pub invariant_of-self : goal.invariant_of-self
invariant_of-self g c =
    let new = state g.S.Store c.execute.new.self in
    let leaves = leaves_of (state g.S.Store) c.self.inside.left.items in
    let rows = sym c.has_rows.ensures ∙ c.if-not-has_rows.false in
    let was = as-begun _ _ _ _ _ _ (ap (λ (s : StateOf Content). s.is_open) c.self.view_is ∙ c.requires) c.self.invariant in
    let crash = commit_leaves _ _ c.execute.ensures.survives in
    let alone = noted-alone (state g.S.Store) _ _ _ _ _ c.new.ensures c.and-kept.ensures c.committed-made.ensures in (
      subst (λ (f : Form). Fits f false new) (sym c.committed-made.ensures) (fits-committed _ _ _ _ crash leaves was.0 _ c.in-Ok.ensures.runs),
      subst (λ (l : List (Remains Content)). Guards false new l) (sym alone)
          (guards-committed _ _ _ _ crash leaves was.0 _ c.in-Ok.ensures.runs rows (λ opened. (c.schema-schema.ensures.live opened).0) (λ db opened may. g.met.S.Store.settled c.execute.new.self.store db opened may)),
      subst (Recalls new) (sym c.forget_passing.ensures) (recalls-committed _ _ _ _ crash leaves was.0 _ c.in-Ok.ensures.runs _ was.2),
    )

pub invariant_of-self-in-Err : goal.invariant_of-self-in-Err
invariant_of-self-in-Err g c =
    let new = state g.S.Store c.execute.new.self in
    let leaves = leaves_of (state g.S.Store) c.self.inside.left.items in
    let rows = sym c.has_rows.ensures ∙ c.if-not-has_rows.false in
    let was = as-begun _ _ _ _ _ _ (ap (λ (s : StateOf Content). s.is_open) c.self.view_is ∙ c.requires) c.self.invariant in
    let crash = commit_leaves _ _ c.execute.ensures.survives in
    let more = noted-more (state g.S.Store) _ _ _ _ _ c.and-tried.ensures c.committed-made.ensures in (
      subst (λ (f : Form). Fits f false new) (sym c.undone-self-inside.ensures) (fits-not-committed _ _ _ _ crash leaves was.0 c.in-Err.error c.in-Err.ensures.runs),
      subst (λ (l : List (Remains Content)). Guards false new l) (sym more)
          (guards-failed _ _ _ _ crash leaves was.0 c.in-Err.error c.in-Err.ensures.runs rows was.1 (λ opened. (c.schema-schema.ensures.live opened).0) (λ db is. is)),
      λ _ _. c.forget.ensures.right _,
    )

pub returns-in-Ok-clause-ends : goal.returns-in-Ok-clause-ends
returns-in-Ok-clause-ends g c =
    let old = state g.S.Store c.self.inside.conn in
    let new = state g.S.Store c.execute.new.self in
    let form = c.self.inside.form in
    let leaves = leaves_of (state g.S.Store) c.self.inside.left.items in
    let rows = sym c.has_rows.ensures ∙ c.if-not-has_rows.false in
    let begun = ap (λ (s : StateOf Content). s.is_open) c.self.view_is ∙ c.requires in
    let was = as-begun _ _ _ _ _ _ begun c.self.invariant in
    let stood = store_state form true old leaves in
    let alone = noted-alone (state g.S.Store) _ _ _ _ _ c.new.ensures c.and-kept.ensures c.committed-made.ensures in
    subst (λ (s : StateOf Content). Keeps s (store_state c.committed-made.result false new (leaves_of (state g.S.Store) c.and-kept.result.items))) (ap (λ (b : Bool). store_state form b old leaves) (sym begun) ∙ c.self.view_is)
    (subst (λ (l : List (Remains Content)). Keeps stood (store_state c.committed-made.result false new l)) (sym alone)
    (subst (λ (f : Form). Keeps stood (store_state f false new (left_in (committed form) old ∷ []))) (sym c.committed-made.ensures) (keeps _ _ _ _ c.execute.ensures.survives leaves was.0 _ c.in-Ok.ensures.runs rows)))

pub returns-in-Err-clause-ends : goal.returns-in-Err-clause-ends
returns-in-Err-clause-ends g c =
    let old = state g.S.Store c.self.inside.conn in
    let new = state g.S.Store c.execute.new.self in
    let form = c.self.inside.form in
    let leaves = leaves_of (state g.S.Store) c.self.inside.left.items in
    let rows = sym c.has_rows.ensures ∙ c.if-not-has_rows.false in
    let begun = ap (λ (s : StateOf Content). s.is_open) c.self.view_is ∙ c.requires in
    let was = as-begun _ _ _ _ _ _ begun c.self.invariant in
    let stood = store_state form true old leaves in
    let more = noted-more (state g.S.Store) _ _ _ _ _ c.and-tried.ensures c.committed-made.ensures in
    subst (λ (s : StateOf Content). Fails s (store_state c.undone-self-inside.result false new (leaves_of (state g.S.Store) c.and-tried.result.items))) (ap (λ (b : Bool). store_state form b old leaves) (sym begun) ∙ c.self.view_is)
    (subst (λ (l : List (Remains Content)). Fails stood (store_state c.undone-self-inside.result false new l)) (sym more)
    (subst (λ (f : Form). Fails stood (store_state f false new (leaves ++ left_in (committed form) old ∷ []))) (sym c.undone-self-inside.ensures) (fails _ _ _ _ c.execute.ensures.survives leaves was.0 c.in-Err.error c.in-Err.ensures.runs rows was.1)))

pub returns-in-Ok-clause-noted : goal.returns-in-Ok-clause-noted
returns-in-Ok-clause-noted g c =
    noted-alone (state g.S.Store) _ _ _ _ (committed c.self.inside.form) c.new.ensures c.and-kept.ensures c.committed-made.ensures
    ∙ ap (λ (left : Remains Content). left ∷ []) (holding-it c.self.inside.form (state g.S.Store c.self.inside.conn) (sym c.has_rows.ensures ∙ c.if-not-has_rows.false))
    ∙ ap (λ (s : StateOf Content). holding s.content ∷ []) c.self.view_is

pub returns-in-Err-clause-noted : goal.returns-in-Err-clause-noted
returns-in-Err-clause-noted g c =
    let leaves = leaves_of (state g.S.Store) c.self.inside.left.items in
    inr (noted-more (state g.S.Store) _ _ _ _ (committed c.self.inside.form) c.and-tried.ensures c.committed-made.ensures
    ∙ ap (λ (left : Remains Content). leaves ++ left ∷ []) (holding-it c.self.inside.form (state g.S.Store c.self.inside.conn) (sym c.has_rows.ensures ∙ c.if-not-has_rows.false))
    ∙ ap (λ (s : StateOf Content). s.crash_leaves ++ holding s.content ∷ []) c.self.view_is)
