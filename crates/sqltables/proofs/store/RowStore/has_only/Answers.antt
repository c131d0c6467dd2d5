use Rattle.std.proofs.Common.{sym, subst, ◌∙◌}
use Rattle.sqltables.proofs.{Words.{Content, Finds}, QueryLemmas.all_metas}
use Rattle.sqltables.proofs.store.RowStore.has_only.Goals as goal

pub returns : goal.returns
returns g c only clean =
    let s = c.args.self.now in
    let it = subst (λ found. Finds found s.content.metas s s) c.in-Some-Ok.field-0-is (c.in-Some-Ok.ensures {u = tt} (λ (xs : Content). xs.metas) all_metas) in
    let row = c.is_only.ensures only in
    (row.0, sym (it.1 clean) ∙ sym c.as_slice.ensures ∙ row.1, row.2)
