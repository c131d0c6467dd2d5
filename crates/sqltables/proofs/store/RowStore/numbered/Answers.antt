use Rattle.std.proofs.Common.{sym, ap, ◌∙◌}
use Rattle.sqltables.proofs.{Words.{Content, is_numbered, readiness_of, StateOf}, AdoptedLemmas.known-other}
use Rattle.sqltables.proofs.store.RowStore.numbered.Goals as goal

pub returns-then-not-is_numbered-clause-others : goal.returns-then-not-is_numbered-clause-others
returns-then-not-is_numbered-clause-others g c trees seen other clean =
    let used = ap (λ (t : StateOf Content). t.readiness) (sym c.store.view_is) ∙ ap readiness_of c.in-Made.is in
    let metas = c.in-Ok.ensures in
    let sure = metas.0.answers seen.answers (c.into_store-then-not-is_numbered.ensures clean).0 in
    known-other trees c.args.store seen used (metas.0.clean sure) (sym (ap is_numbered (c.as_slice.ensures ∙ metas.1 sure)) ∙ sym c.is_numbered.ensures ∙ c.if-not-is_numbered.true)
