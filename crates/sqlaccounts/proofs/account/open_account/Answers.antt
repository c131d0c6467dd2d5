use Rattle.std.proofs.Common.{sym, subst}
use Rattle.sqlaccounts.proofs.{Words.{IsConsistent, opened_row}, CallLemmas.{then-kept, then-put}, OpeningLemmas.{opened-now, still-open}}
use Rattle.sqlaccounts.proofs.account.open_account.Goals as goal

pub returns : goal.returns
returns g c =
    let found = c.in_ok-row.ensures.row in
    then-put c.in_ok-row-2.row (opened_row c.args.registrar) _ c.args.store.now c.maybe_row.new.store c.put_account.new.self found.0 (c.in_ok-row-2.ensures {u = tt}) (c.in_ok-put_account.ensures {u = tt})
    (λ clean. opened-now c.args.store.now.content c.args.registrar c.in_ok-row.row (subst IsConsistent (found.0.content clean) (c.show_consistent.ensures clean)) c.in_ok-row.ensures.place (found.1 clean) (sym c.if-is_some.ensures))

pub returns-then-is_some : goal.returns-then-is_some
returns-then-is_some g c =
    let found = c.in_ok-row.ensures.row in
    then-kept _ c.args.store.now c.maybe_row.new.store found.0 c.requires
    (λ clean. still-open c.args.store.now.content c.args.registrar c.in_ok-row.row c.in_ok-row.ensures.place (found.1 clean) (sym c.if-is_some.ensures))
