use Rattle.std.proofs.Common.{◌≡◌, ◌==◌, true, not, List, filter, length, ap, sym, subst, ◌∙◌}
use Rattle.sqltables.proofs.{Words.{account_with_id, AccountRow, Content, Finds}, PuttingLemmas.account-there}
use Rattle.sqltables.proofs.QueryLemmas.{accounts_by_id, asks-by}
use Rattle.sqltables.proofs.store.RowStore.has_account.Goals as goal

pub returns : goal.returns
returns g c there clean =
    let id = c.args.account.now.id in
    let s = c.args.self.now in
    let rows = filter (account_with_id id) s.content.accounts in
    let it = subst (λ found. Finds found rows s s) c.in-Some-Ok.field-0-is
    (c.in-Some-Ok.ensures {u = tt} (λ (xs : Content). filter (account_with_id id) xs.accounts) (asks-by c.number.ensures (accounts_by_id id))) in
    account-there s.content.accounts id (subst (λ (l : List AccountRow). not (length l == 0) ≡ true) (it.1 clean) (ap not (sym c.is_empty.ensures) ∙ there))
