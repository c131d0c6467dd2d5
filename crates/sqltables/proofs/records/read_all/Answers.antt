use Rattle.std.proofs.Common.{◌<◌, ◌++◌, [], ◌∷◌, length, get_or, sym, ap, ap₂, ◌∙◌, arith}
use Rattle.std.proofs.lemmas.List.{get_or-map, take_more, length-map}
use Rattle.sqltables.proofs.records.read_all.Goals as goal

pub rows-preserved : goal.rows-preserved
rows-preserved g c xs is =
    let i = c.rows.row-index in
    let d = c.in-Ok.record in
    let shown = g.R.Record.shown in
    let short : i < length xs = omega (arith, c.rows-test.true, ap length is, length-map xs shown) in
    let row = c.row-item.is ∙ ap (λ l. get_or l i c.row-item.result) is ∙ get_or-map shown xs i d c.row-item.result short in
    c.in_ok-push-in-Ok.ensures.ok ∙ ap₂ ◌++◌ (c.rows.invariant xs is) (ap (λ y. y ∷ []) (c.in-Ok.ensures (get_or xs i d) row)) ∙ sym (take_more xs i d short)
