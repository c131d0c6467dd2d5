use Rattle.std.proofs.{Common.{◌≡◌, inr, sym, ap, ◌∙◌}, lemmas.Result.{IfErr-weaker, IfOk-weaker}}
use Rattle.sqltables.proofs.{Words.{Database, HasCleanDisk, IsFound, State, state}, StandingLemmas.honest}
use Rattle.sqltables.proofs.store.RowStore.taken.Goals as goal

-- the database that was found is the last commit's
last-commit : (s : State) → IsFound s → HasCleanDisk s → s.now.trees ≡ s.committed.trees
last-commit s found clean = ap (λ (db : Database). db.trees) (found clean).0.clean

pub numbered-requires-clause-shown : goal.numbered-requires-clause-shown
numbered-requires-clause-shown g c =
    let found = state g.S.Store c.args.conn in
    (found.committed.trees, c.in_ok-store.ensures.shown found.committed.trees (last-commit found c.requires))

pub returns-clause-honest : goal.returns-clause-honest
returns-clause-honest g c =
    let found = state g.S.Store c.args.conn in
    IfOk-weaker c.numbered.result _ _ (λ store kept e. honest found (sym c.in_ok-store.ensures.honest ∙ kept e)) c.numbered.ensures.honest

pub returns-clause-clean : goal.returns-clause-clean
returns-clause-clean g c =
    let found = state g.S.Store c.args.conn in
    IfErr-weaker c.numbered.result _ _ (λ e kept clean. honest found (sym c.in_ok-store.ensures.honest ∙ kept clean)) c.numbered.ensures.clean

pub returns-clause-refused : goal.returns-clause-refused
returns-clause-refused g c =
    let found = state g.S.Store c.args.conn in
    IfErr-weaker c.numbered.result _ _ (λ e left clean db may. inr (left clean db may))
    (c.numbered.ensures.refused found.committed.trees (c.in_ok-store.ensures.shown found.committed.trees (last-commit found c.requires)))

pub returns-clause-others : goal.returns-clause-others
returns-clause-others g c =
    let found = state g.S.Store c.args.conn in
    c.numbered.ensures.others found.committed.trees (c.in_ok-store.ensures.shown found.committed.trees (last-commit found c.requires))
