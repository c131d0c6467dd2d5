use Rattle.std.proofs.Common.{Bool, true, false, sym, ap, subst, ◌∙◌, true≢false, FitsSigned, rules, to_z-of_z, w64}
use Rattle.sqltables.proofs.Words.{Content, Fits, Form, leaves_of, state, StateOf, Stays, store_state, Writes}
use Rattle.sqltables.proofs.AlteringLemmas.{fits-written, left-by-write, left-open, none-committed, numbered, open-after, recalls-written, written}
use Rattle.sqltables.proofs.StandingLemmas.{as-begun, both, fits-held, fits-idle, guarded, guards-on, opened-held, stays-held, stays-idle}
use Rattle.sqltables.proofs.store.RowStore.run.Goals.{then-is_autocommit, else-is_autocommit}
use Rattle.sqltables.proofs.store.RowStore.run.Goals as goal

pub invariant_of-self : goal.invariant_of-self
invariant_of-self g c =
    let rows = sym c.has_rows.ensures ∙ c.if-not-has_rows.false in
    let begun = ap (λ (s : StateOf Content). s.is_open) c.self.view_is ∙ c.requires.begun in
    let was = as-begun _ _ _ _ _ _ begun c.self.invariant in
    let survives = c.execute.ensures.survives in
    let opened = guarded _ _ _ _ survives was.1 in
    as-begun _ _ _ _ _ _ (sym begun) (
      fits-written _ _ _ _ _ _ _ survives was.0 rows _ c.requires.means.1 _ c.in-Ok.ensures.runs,
      guards-on _ _ _ _ _ _ survives was.1 (λ clean _. open-after _ _ _ _ _ _ _ survives was.0 rows _ c.requires.means.1 _ c.in-Ok.ensures.runs opened clean)
          (none-committed _ _ _ _ _ _ _ survives was.0 rows _ c.requires.means.1 survives opened),
      recalls-written _ _ _ _ _ _ _ survives was.0 rows _ c.requires.means.1 _ c.in-Ok.ensures.runs _ _ was.2 c.forget_of.ensures,
    )

pub invariant_of-self-then-is_autocommit : goal.invariant_of-self-then-is_autocommit
invariant_of-self-then-is_autocommit g c =
    let rows = sym c.has_rows.ensures ∙ c.if-not-has_rows.false in
    let was = as-begun _ _ _ _ _ _ (ap (λ (s : StateOf Content). s.is_open) c.self.view_is ∙ c.requires.begun) c.self.invariant in
    let survives = c.execute.ensures.survives in
    let left = left-by-write _ _ _ _ _ _ _ survives was.0 rows _ c.requires.means.1 _ c.in-Err.ensures.runs in (
      subst (λ (f : Form). Fits f false (state g.S.Store c.execute.new.self)) (sym c.undone-self-inside.ensures) (fits-idle _ _ _ _ _ c.is_autocommit.ensures.value left c.if-is_autocommit.true),
      guards-on _ false _ _ _ _ survives was.1 (λ clean e. absurd (true≢false (sym e)))
          (none-committed _ _ _ _ _ _ _ survives was.0 rows _ c.requires.means.1 survives (guarded _ _ _ _ survives was.1)),
      λ _ _. c.forget.ensures.right _,
    )

pub invariant_of-self-else-is_autocommit : goal.invariant_of-self-else-is_autocommit
invariant_of-self-else-is_autocommit g c =
    let rows = sym c.has_rows.ensures ∙ c.if-not-has_rows.false in
    let begun = ap (λ (s : StateOf Content). s.is_open) c.self.view_is ∙ c.requires.begun in
    let was = as-begun _ _ _ _ _ _ begun c.self.invariant in
    let survives = c.execute.ensures.survives in
    let opened = guarded _ _ _ _ survives was.1 in
    let left = left-by-write _ _ _ _ _ _ _ survives was.0 rows _ c.requires.means.1 _ c.in-Err.ensures.runs in
    let known = left-open _ _ _ _ _ _ _ survives was.0 rows _ c.requires.means.1 _ c.in-Err.ensures.runs opened in
    as-begun _ _ _ _ _ _ (sym begun) (
      fits-held _ _ _ _ _ c.is_autocommit.ensures.value left c.if-is_autocommit.false,
      guards-on _ _ _ _ _ _ survives was.1 (λ clean _. opened-held _ _ _ _ _ c.is_autocommit.ensures.value known c.if-is_autocommit.false clean)
          (none-committed _ _ _ _ _ _ _ survives was.0 rows _ c.requires.means.1 survives opened),
      λ _ _. c.forget.ensures.right _,
    )

pub returns-in-Ok-clause-made : goal.returns-in-Ok-clause-made
returns-in-Ok-clause-made g c f alters =
    let old = state g.S.Store c.self.inside.conn in
    let new = state g.S.Store c.execute.new.self in
    let form = c.self.inside.form in
    let leaves = leaves_of (state g.S.Store) c.self.inside.left.items in
    let rows = sym c.has_rows.ensures ∙ c.if-not-has_rows.false in
    let begun = ap (λ (s : StateOf Content). s.is_open) c.self.view_is ∙ c.requires.begun in
    let was = as-begun _ _ _ _ _ _ begun c.self.invariant in
    let it = written _ _ _ _ _ _ _ c.execute.ensures.survives was.0 rows f alters _ c.in-Ok.ensures.runs leaves in
    let there = subst (λ (b : Bool). Writes (f (store_state form b old leaves).content) (store_state form b old leaves) (store_state form b new leaves)) (sym begun) it in
    subst (λ (s : StateOf Content). Writes (f s.content) s (store_state form c.self.inside.begun new leaves)) c.self.view_is there

pub returns-in-Ok-clause-numbered : goal.returns-in-Ok-clause-numbered
returns-in-Ok-clause-numbered g c f number appends e =
    let rows = sym c.has_rows.ensures ∙ c.if-not-has_rows.false in
    let was = as-begun _ _ _ _ _ _ (ap (λ (s : StateOf Content). s.is_open) c.self.view_is ∙ c.requires.begun) c.self.invariant in
    let p = both (state g.S.Store c.execute.new.self) e in
    let fits-number : FitsSigned w64 c.last_insert_rowid.result = search rules in
    to_z-of_z fits-number ∙ c.last_insert_rowid.ensures ∙ numbered _ _ _ _ _ _ _ c.execute.ensures.survives was.0 rows f appends.alters _ c.in-Ok.ensures.runs number appends p.0 p.1
    ∙ ap (λ (s : StateOf Content). number s.content) c.self.view_is

pub returns-after-is_autocommit-clause-made : goal.returns-after-is_autocommit-clause-made
returns-after-is_autocommit-clause-made g c f alters =
    let old = state g.S.Store c.self.inside.conn in
    let new = state g.S.Store c.execute.new.self in
    let form = c.self.inside.form in
    let leaves = leaves_of (state g.S.Store) c.self.inside.left.items in
    let rows = sym c.has_rows.ensures ∙ c.if-not-has_rows.false in
    let begun = ap (λ (s : StateOf Content). s.is_open) c.self.view_is ∙ c.requires.begun in
    let was = as-begun _ _ _ _ _ _ begun c.self.invariant in
    let survives = c.execute.ensures.survives in
    let left = left-by-write _ _ _ _ _ _ _ survives was.0 rows _ c.requires.means.1 _ c.in-Err.ensures.runs in
    let stood = store_state form true old leaves in
    subst (λ (s : StateOf Content). Stays s c.if-is_autocommit.self) (ap (λ (b : Bool). store_state form b old leaves) (sym begun) ∙ c.self.view_is) (elim c.if-is_autocommit.branch [
      | then-is_autocommit w ↦ subst (Stays stood) (sym w.self-is)
          (subst (λ (f : Form). Stays stood (store_state f false new leaves)) (sym w.undone-self-inside.ensures) (stays-idle _ _ _ _ _ c.is_autocommit.ensures.value _ survives leaves left w.if-is_autocommit.true))
      | else-is_autocommit w ↦ subst (Stays stood) (sym w.self-is)
          (subst (λ (b : Bool). Stays stood (store_state form b new leaves)) (sym begun) (stays-held _ _ _ _ _ c.is_autocommit.ensures.value _ survives leaves left w.if-is_autocommit.false))
    ])
