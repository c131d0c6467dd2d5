use Rattle.std.proofs.Common.{ap, subst, ◌∙◌}
use Rattle.sqlaccounts.proofs.{Words.{bag_of, filter_map, in_order, IsConsistent, line_of_columns}, LinesOnLemmas.lines-read}
use Rattle.sqlaccounts.proofs.reading_lines.lines_on.Goals as goal

pub returns : goal.returns
returns g c =
    let found = c.in_ok-rows.ensures.rows in (
      found.0,
      λ clean.
          c.in_ok-read.ensures {u = tt} ∙ ap (λ rows. bag_of in_order (filter_map line_of_columns rows)) (c.as_slice.ensures ∙ found.1 clean)
          ∙ lines-read c.args.store.now.content c.args.registrar c.args.roid.now (subst IsConsistent (found.0.content clean) (c.show_consistent.ensures clean)) c.in_ok-rows.ensures.place c.in_ok-rows.ensures.domain,
    )
