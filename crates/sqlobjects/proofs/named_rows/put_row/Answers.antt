use Rattle.std.proofs.Common.{Some, FitsSigned, ap, rules, to_z-of_z, w64, ◌∙◌}
use Rattle.sqlobjects.specs.inner.Stages.{IsPlacedAt, with_replaced}
use Rattle.sqlobjects.proofs.{NamedRowLemmas.replaced-placed, StepLemmas.made}
use Rattle.sqlobjects.proofs.named_rows.put_row.Goals as goal

pub returns : goal.returns
returns g c =
    let table = g.R.NamedRow.table in
    let old = c.args.store.now in
    let found = c.args.found.now in
    let row = c.set_id.new.self in
    let fits : FitsSigned w64 c.id.result = search rules in
    made (IsPlacedAt table (Some found) c.args.row row) (with_replaced table row) old c.replace.new.store (c.in_ok-replace.ensures {u = tt}) (replaced-placed table old.content found c.args.row row (c.set_id.ensures ∙ ap (table.numbered c.args.row) (to_z-of_z fits ∙ c.id.ensures)))
