use Rattle.std.proofs.Common.{rules, sym, ap, ◌∙◌, FitsSigned, w64, to_z-of_z, Some}
use Rattle.sqldomains.specs.inner.Links.{name_at}
use Rattle.sqldomains.proofs.{Words.{row_there, rows_of}, NumberLemmas.name-there}
use Rattle.sqldomains.proofs.link_rows.number_there.Goals as goal

pub returns-in-Some : goal.returns-in-Some
returns-in-Some g c =
    let table = g.R.NamedRow.table in
    let xs = c.args.store.now.content in
    let row = c.in-Some.row in
    let fits : FitsSigned w64 c.id.result = search rules in
    let asked = c.in_ok-row_named.ensures {u = tt} in (
      asked.0,
      λ e.
          let at = row_there table.key table.name c.args.name.now (table.rows xs) row (asked.1 e ∙ ap rows_of c.in-Some.is) in
          ap (name_at table xs) (to_z-of_z fits) ∙ name-there table xs (c.show_consistent.ensures (asked.0.clean e)) row at.0 c.id.result (sym c.id.ensures) ∙ ap Some at.1,
    )
