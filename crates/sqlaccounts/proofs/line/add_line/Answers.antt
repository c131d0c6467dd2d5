use Rattle.std.proofs.Common.{rules, ap, subst, ◌∙◌, FitsSigned, to_z-of_z}
use Rattle.sqlaccounts.proofs.Words.{appended, IsBalanceChanged, lines, lines_to, maybe_moment_column, reads-same, then-made, w128}
use Rattle.sqlaccounts.proofs.LineLemmas.{line-posted}
use Rattle.sqlaccounts.proofs.line.add_line.Goals as goal

pub returns : goal.returns
returns g c =
    let fits : FitsSigned w128 c.amount.result = search rules in
    let paid = subst (λ z. IsBalanceChanged z c.args.row c.in_ok-row.row) (to_z-of_z fits ∙ c.amount.ensures.value) c.in_ok-row.ensures.paid in
    let ended = c.maybe_moment_column-ends.ensures ∙ ap maybe_moment_column c.maybe_grace_end.ensures in
    then-made (lines_to (appended lines (λ id. record (c.in_ok-line.line) { id = id }))) _ c.args.store.now c.args.store.now c.append_line.new.self (reads-same c.args.store.now) (c.in_ok-append_line.ensures {u = tt})
    (λ clean. line-posted c.args.days.now c.args.registrar c.args.row c.args.store.now.content (c.requires.there clean) c.args.line _ c.in_ok-row.row c.in_ok-line.line paid (c.in_ok-line.ensures {u = tt}) ended)
