use Rattle.std.proofs.Common.{filter, ap, ◌∙◌}
use Rattle.sqltables.proofs.{Words.{account_with_id, Content}, PuttingLemmas.account-put}
use Rattle.sqltables.proofs.store.RowStore.put_account.Goals as goal

pub know_account-requires : goal.know_account-requires
know_account-requires g c clean =
    let made = c.in_ok-write_account.ensures {u = tt} in
    ap (λ (xs : Content). filter (account_with_id c.args.account.now.id) xs.accounts) (made.content clean)
    ∙ account-put c.args.self.now.content.accounts c.args.account.now (c.show_consistent.ensures (made.clean clean)).keyed.accounts
