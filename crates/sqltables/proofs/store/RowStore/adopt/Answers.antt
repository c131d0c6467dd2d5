use Rattle.std.proofs.{Common.{◌≡◌, inl, inr, Result, Ok, Err, IfErr, sym, ap, subst, ◌∙◌}, lemmas.Result.IfErr-weaker}
use Rattle.sqltables.proofs.Words.{Database, IsReread, IsSameRegistry, State, state, Trees}
use Rattle.sqltables.proofs.store.RowStore.adopt.Goals as goal

both : {A E : Type 0} (result : Result A E) (P Q : E → Type 0) → IfErr result P → IfErr result Q → IfErr result (λ e. P e × Q e)
both (Ok it) P Q first second = tt
both (Err e) P Q first second = (first, second)

-- what was read anew is what was committed
same-trees : (old new : State) → IsReread old new → new.committed.trees ≡ old.committed.trees
same-trees old new it = ap (λ (db : Database). db.trees) (sym it.opens.clean) ∙ it.trees

pub returns-in-Ok-clause-refused : goal.returns-in-Ok-clause-refused
returns-in-Ok-clause-refused g c =
    let old = state g.S.Store c.args.conn in
    let new = state g.S.Store c.in-Ok.conn in
    IfErr-weaker c.taken.result _ _
    (λ e left clean db may.
    let sure = left.0 clean in
    let it = c.in-Ok.ensures.reread sure in
    elim (left.1 clean db may) [
      | inl found ↦ inl (c.in-Ok.ensures.leaves sure db (subst new.may_leave (sym found) (g.met.S.Store.stays c.in-Ok.conn.store it.opens.is_open)))
      | inr same ↦ inr (subst (λ (was : Trees). IsSameRegistry was db) (same-trees old new it) same)
    ])
    (both c.taken.result _ _ c.taken.ensures.clean c.taken.ensures.refused)
