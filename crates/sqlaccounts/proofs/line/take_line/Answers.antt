use Rattle.std.proofs.Common.{subst, sym, ◌∙◌}
use Rattle.sqlaccounts.proofs.{Words.{delete_where, IsConsistent, line_with_id, lines_to, then-made}, CallLemmas.then-kept}
use Rattle.sqlaccounts.proofs.LineLemmas.{line-left, line-taken}
use Rattle.sqlaccounts.proofs.line.take_line.Goals as goal

pub returns : goal.returns
returns g c = λ days.
    let read = c.in_ok-rows.ensures.rows in
    then-made (lines_to (delete_where (line_with_id c.in-Some.number))) _ c.args.store.now c.rows_about.new.store c.remove_lines_by_id.new.self read.0 (c.in_ok-remove_lines_by_id.ensures {u = tt})
    (λ clean.
    line-taken days c.args.registrar c.args.row c.args.store.now.content (c.requires.there (read.0.clean clean)) c.args.line c.in_ok-row.row c.as_slice.result.now c.in-Some.number
    (subst IsConsistent (read.0.content clean) (c.show_consistent.ensures clean)).keyed.lines c.in_ok-row.ensures.paid (c.as_slice.ensures ∙ read.1 clean) (sym c.in-Some.is ∙ c.number_of_line-number.ensures))

pub returns-in_default : goal.returns-in_default
returns-in_default g c = λ days.
    let read = c.in_ok-rows.ensures.rows in
    then-kept _ c.args.store.now c.rows_about.new.store read.0 c.requires.begun
    (λ clean. line-left days c.args.registrar c.args.row c.args.store.now.content (c.requires.there (read.0.clean clean)) c.args.line c.as_slice.result.now c.in_ok-rows.ensures.domain (c.as_slice.ensures ∙ read.1 clean) (sym c.in_default.is ∙ c.number_of_line-number.ensures))
