use Rattle.std.proofs.Common.{subst, filter, Ok}
use Rattle.sqlaccounts.proofs.Words.{Finds, one-asked, registrar_column}
use Rattle.sqltables.specs.Account.{account_with_id}
use Rattle.sqlaccounts.proofs.account.maybe_row.Goals as goal

pub returns-clause-row : goal.returns-clause-row
returns-clause-row g c =
    one-asked c.only.result c.in_ok-rows.rows (account_with_id (registrar_column c.args.registrar)) c.args.store.now.content.accounts c.args.store.now c.accounts_by_id.new.self
    c.only.ensures
    (subst (λ v. Finds (Ok c.in_ok-rows.rows) (filter (account_with_id v) c.args.store.now.content.accounts) c.args.store.now c.accounts_by_id.new.self) c.in_ok-id.ensures.number c.in_ok-rows.ensures)
