use Rattle.std.proofs.Common.{ap, subst, sym, ◌∙◌}
use Rattle.sqlaccounts.proofs.{Words.{bag_of, filter_map, in_order, IsConsistent, line_of_columns}, ConsistencyLemmas.parts-there}
use Rattle.sqlaccounts.proofs.reading_lines.lines.Goals as goal

pub returns : goal.returns
returns g c =
    let found = c.in_ok-rows.ensures.rows in (
      found.0,
      λ clean.
          c.in_ok-read.ensures {u = tt} ∙ ap (λ rows. bag_of in_order (filter_map line_of_columns rows)) (c.as_slice.ensures ∙ found.1 clean)
          ∙ sym (parts-there c.args.store.now.content c.args.registrar (subst IsConsistent (found.0.content clean) (c.show_consistent.ensures clean)) c.in_ok-rows.ensures.place).0,
    )
