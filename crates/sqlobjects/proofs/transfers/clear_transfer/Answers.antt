use Rattle.sqlobjects.proofs.{Words.{delete_where, is_transfer_of, IsTransferCleared, transfers_to}, StepLemmas.asked-makes}
use Rattle.sqlobjects.proofs.TransferLemmas.{transfer-cleared}
use Rattle.sqlobjects.proofs.transfers.clear_transfer.Goals as goal

pub returns-in-Some : goal.returns-in-Some
returns-in-Some g c =
    let it = c.args.object in
    let old = c.args.store.now in
    let asked = c.in_ok-there.ensures {u = tt} in
    asked-makes c.remove_rows.result (transfers_to (delete_where (is_transfer_of it))) (IsTransferCleared it) old c.row_there.new.store c.remove_rows.new.store asked.0 c.remove_rows.ensures
    (λ clean. transfer-cleared it old.content c.in_ok-there.there (asked.1 clean))
