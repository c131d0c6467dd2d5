use Rattle.std.proofs.Common.{sym, subst, ap, ◌∙◌}
use Rattle.sqlite_keyed.specs.Keyed.{insert_by}
use Rattle.sqlrows.proofs.{RowLemmas.find_one, StateLemmas.then-made}
use Rattle.sqltables.specs.{Account.{account_with_id, accounts}, Content.Content, inner.{Content.accounts_to, Consistent.IsConsistent}}
use Rattle.sqlterms.specs.inner.Changes.{nameless}
use Rattle.sqlterms.proofs.NameLemmas.{renamed_one}
use Rattle.sqlterms.proofs.naming.name_account.Goals as goal

pub returns : goal.returns
returns g c =
    let e = c.in_ok-rows.ensures {u = tt} in
    let xs : Content = c.args.store.now.content in
    let new = c.in_ok-named.named in
    then-made (λ xs. accounts_to (λ rows. insert_by accounts.key rows new) xs) _ c.args.store.now c.accounts_by_id.new.self c.put_account.new.self e.0 (c.in_ok-put_account.ensures {u = tt})
    (λ clean. renamed_one xs c.in-Some.row new c.args.number (subst IsConsistent (e.0.content clean) (c.show_consistent.ensures clean)).keyed.accounts
    (sym (find_one (account_with_id c.args.number) xs.accounts c.in_ok-rows.rows c.in_ok-row.field-0 (e.1 clean) (c.in_ok-row.ensures {u = tt})) ∙ c.in-Some.is)
    (ap nameless (c.in_ok-named.ensures {u = tt})))
