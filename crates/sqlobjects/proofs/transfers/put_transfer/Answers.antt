use Rattle.std.proofs.Common.{subst}
use Rattle.sqlobjects.proofs.{Words.{IsConsistent, IsTransferPut, transfers_to, with_over}, StepLemmas.asked-makes}
use Rattle.sqlobjects.proofs.TransferLemmas.{transfer-put}
use Rattle.sqlobjects.proofs.transfers.put_transfer.Goals as goal

pub returns : goal.returns
returns g c =
    let it = c.args.object in
    let transfer = c.args.transfer.now in
    let row = c.in_ok-row.row in
    let there = c.in_ok-there.there in
    let old = c.args.store.now in
    let asked = c.in_ok-there.ensures in
    asked-makes c.put_over.result (λ xs. transfers_to (with_over it there row) xs) (IsTransferPut it transfer) old c.row_there.new.store c.put_over.new.store asked.0 c.put_over.ensures
    (λ clean. transfer-put it old.content transfer there row c.in_ok-row.ensures.row c.in_ok-row.ensures.is (asked.1 clean)
    (subst IsConsistent (asked.0.content clean) (c.show_consistent.ensures clean)).keyed.transfers)
