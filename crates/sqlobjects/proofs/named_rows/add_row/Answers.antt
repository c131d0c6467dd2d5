use Rattle.std.proofs.Common.{◌∙◌, None, FitsSigned, ap, rules, to_z-of_z, w64}
use Rattle.sqlobjects.specs.inner.Stages.{IsPlacedAt, with_last}
use Rattle.sqlobjects.proofs.{NamedRowLemmas.added-placed, StepLemmas.wrote}
use Rattle.sqlobjects.proofs.named_rows.add_row.Goals as goal

pub returns : goal.returns
returns g c =
    let table = g.R.NamedRow.table in
    let given = c.args.row in
    let row = c.set_id.new.self in
    let old = c.args.store.now in
    let fits : FitsSigned w64 c.in_ok-id.id = search rules in
    wrote (IsPlacedAt table None given row) (with_last table given old.content) old c.append.new.store c.in_ok-id.ensures.made
    (λ clean is. added-placed table old.content c.append.new.store.content given row is (c.set_id.ensures ∙ ap (table.numbered given) (to_z-of_z fits ∙ c.in_ok-id.ensures.numbered clean)))
