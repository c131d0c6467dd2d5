use Rattle.sqltables.proofs.QueryLemmas.{all_accounts}
use Rattle.sqltables.proofs.store.RowStore.all_accounts.Goals as goal

pub select-requires : goal.select-requires
select-requires g c = (_, all_accounts)

pub returns : goal.returns
returns g c = c.select.ensures _ all_accounts
