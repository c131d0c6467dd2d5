use Rattle.std.proofs.Common.{◌≡◌, true, false, sym, subst, ◌∙◌, true≢false}
use Rattle.sqltables.proofs.Words.{Content, Finds, Fits, Form, leaves_of, state, StateOf, Stays, store_state}
use Rattle.sqltables.proofs.AskingLemmas.{asked, fits-shown, left-by-query, left-open, nothing-committed, recalls-shown, same-if}
use Rattle.sqltables.proofs.StandingLemmas.{answered-open, fits-held, fits-idle, guards-on, opened-held, stays-held, stays-idle}
use Rattle.sqltables.proofs.store.RowStore.ask.Goals.{then-is_autocommit, else-is_autocommit}
use Rattle.sqltables.proofs.store.RowStore.ask.Goals as goal

pub invariant_of-self : goal.invariant_of-self
invariant_of-self g c =
    let survives = c.query_all.ensures.survives in
    let rows = sym c.has_rows.ensures ∙ c.if-not-has_rows.false in
    let answers = subst (λ (s : StateOf Content). s.is_honest ≡ true → s.is_clean ≡ true) (sym c.self.view_is) c.requires.answers in (
      fits-shown _ _ _ _ _ _ _ survives c.self.invariant.0 rows c.requires.plain _ c.in-Ok.ensures.ok,
      guards-on _ _ _ _ _ _ survives c.self.invariant.1 (λ clean _. (same-if _ _ _ _ _ _ _ survives c.self.invariant.0 rows c.requires.plain _ clean (c.in-Ok.ensures.ok clean)).0.is_open)
          (nothing-committed _ _ _ _ _ _ _ survives c.self.invariant.0 rows c.requires.plain survives (answered-open _ _ _ survives answers)),
      recalls-shown _ _ _ _ _ _ _ survives c.self.invariant.0 rows c.requires.plain _ c.in-Ok.ensures.ok _ _ c.self.invariant.2 c.keep.ensures.right,
    )

pub invariant_of-self-then-is_autocommit : goal.invariant_of-self-then-is_autocommit
invariant_of-self-then-is_autocommit g c =
    let survives = c.query_all.ensures.survives in
    let rows = sym c.has_rows.ensures ∙ c.if-not-has_rows.false in
    let answers = subst (λ (s : StateOf Content). s.is_honest ≡ true → s.is_clean ≡ true) (sym c.self.view_is) c.requires.answers in
    let left = left-by-query _ _ _ _ _ _ _ survives c.self.invariant.0 rows c.requires.plain _ c.in-Err.ensures.err in (
      subst (λ (f : Form). Fits f false (state g.S.Store c.query_all.new.self)) (sym c.undone-self-inside.ensures) (fits-idle _ _ _ _ _ c.is_autocommit.ensures.value left c.if-is_autocommit.true),
      guards-on _ false _ _ _ _ survives c.self.invariant.1 (λ clean e. absurd (true≢false (sym e)))
          (nothing-committed _ _ _ _ _ _ _ survives c.self.invariant.0 rows c.requires.plain survives (answered-open _ _ _ survives answers)),
      λ _ _. c.forget.ensures.right _,
    )

pub invariant_of-self-else-is_autocommit : goal.invariant_of-self-else-is_autocommit
invariant_of-self-else-is_autocommit g c =
    let survives = c.query_all.ensures.survives in
    let rows = sym c.has_rows.ensures ∙ c.if-not-has_rows.false in
    let answers = subst (λ (s : StateOf Content). s.is_honest ≡ true → s.is_clean ≡ true) (sym c.self.view_is) c.requires.answers in
    let opened = answered-open _ _ _ survives answers in
    let left = left-by-query _ _ _ _ _ _ _ survives c.self.invariant.0 rows c.requires.plain _ c.in-Err.ensures.err in
    let known = left-open _ _ _ _ _ _ _ survives c.self.invariant.0 rows c.requires.plain _ c.in-Err.ensures.err opened in (
      fits-held _ _ _ _ _ c.is_autocommit.ensures.value left c.if-is_autocommit.false,
      guards-on _ _ _ _ _ _ survives c.self.invariant.1 (λ clean _. opened-held _ _ _ _ _ c.is_autocommit.ensures.value known c.if-is_autocommit.false clean)
          (nothing-committed _ _ _ _ _ _ _ survives c.self.invariant.0 rows c.requires.plain survives opened),
      λ _ _. c.forget.ensures.right _,
    )

pub returns-in-Ok : goal.returns-in-Ok
returns-in-Ok g c f asks =
    let rows = sym c.has_rows.ensures ∙ c.if-not-has_rows.false in
    let new = store_state c.self.inside.form c.self.inside.begun (state g.S.Store c.query_all.new.self) (leaves_of (state g.S.Store) c.self.inside.left.items) in
    subst (λ (s : StateOf Content). Finds c.read_all-found.result (f s.content) s new) c.self.view_is
    (asked _ _ _ _ _ _ _ _ _ _ c.query_all.ensures.survives c.self.invariant.0 rows f asks _ c.in-Ok.ensures.ok _ (λ xs e. c.read_all-found.ensures xs (c.deref.ensures.value ∙ e)))

pub returns-after-is_autocommit : goal.returns-after-is_autocommit
returns-after-is_autocommit g c f asks =
    let form = c.self.inside.form in
    let begun = c.self.inside.begun in
    let new = state g.S.Store c.query_all.new.self in
    let leaves = leaves_of (state g.S.Store) c.self.inside.left.items in
    let was = store_state form begun (state g.S.Store c.self.inside.conn) leaves in
    let rows = sym c.has_rows.ensures ∙ c.if-not-has_rows.false in
    let survives = c.query_all.ensures.survives in
    let left = left-by-query _ _ _ _ _ _ _ survives c.self.invariant.0 rows c.requires.plain _ c.in-Err.ensures.err in
    subst (λ (s : StateOf Content). Stays s c.if-is_autocommit.self) c.self.view_is (elim c.if-is_autocommit.branch [
      | then-is_autocommit w ↦ subst (Stays was) (sym w.self-is)
          (subst (λ (f : Form). Stays was (store_state f false new leaves)) (sym w.undone-self-inside.ensures) (stays-idle _ _ _ _ _ c.is_autocommit.ensures.value _ survives leaves left w.if-is_autocommit.true))
      | else-is_autocommit w ↦ subst (Stays was) (sym w.self-is) (stays-held _ _ _ _ _ c.is_autocommit.ensures.value _ survives leaves left w.if-is_autocommit.false)
    ])

pub keep-requires : goal.keep-requires
keep-requires g c = c.requires.reads
