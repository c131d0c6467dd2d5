use Rattle.std.proofs.{Common.{◌≡◌, inl}, lemmas.Result.{IfErr-weaker, err_from_is_err_and}}
use Rattle.sqlite.specs.{Held.state, State.{HasCleanDisk, State}}
use Rattle.sqltables.specs.inner.Adoption.{IsReread}
use Rattle.oldrows.proofs.reading.OldRows.adopt.Goals as goal

-- what was read anew is what was committed
same-trees : (old new : State) → (HasCleanDisk new → IsReread old new) → HasCleanDisk new → new.now.trees ≡ old.committed.trees
same-trees old new reread clean = (reread clean).trees

pub returns-in-Err-clause-left : goal.returns-in-Err-clause-left
returns-in-Err-clause-left g c clean opened db left = inl (g.met.S.Store.settled c.args.conn.store db opened (c.in-Err.ensures.refused db left))

pub returns-in_err-old-clause-left : goal.returns-in_err-old-clause-left
returns-in_err-old-clause-left g c =
    let old = state g.S.Store c.args.conn in
    let new = state g.S.Store c.in-Ok.conn in
    let p = err_from_is_err_and c.from_residual.result c.from_residual.ensures.1 in
    rw (p.1, p.2) (λ clean opened. c.in_err-old.ensures.left old.committed.trees (same-trees old new c.in-Ok.ensures.reread) clean)

pub returns-clause-left : goal.returns-clause-left
returns-clause-left g c =
    let old = state g.S.Store c.args.conn in
    let new = state g.S.Store c.in-Ok.conn in
    IfErr-weaker c.numbered.result _ _ (λ e left clean opened. left clean) (c.numbered.ensures.left old.committed.trees (c.in_ok-old.ensures.seen old.committed.trees (same-trees old new c.in-Ok.ensures.reread)))
