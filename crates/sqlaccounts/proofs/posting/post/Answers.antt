use Rattle.std.proofs.Common.{refl}
use Rattle.sqlaccounts.proofs.Words.{counted_in, next_command, next_serial, reads-same, with_command, with_serial}
use Rattle.sqlaccounts.proofs.{CallLemmas.then-kept, PostingLemmas.counts-posted}
use Rattle.sqlaccounts.proofs.posting.post.Goals as goal

pub returns-in-CountCommand : goal.returns-in-CountCommand
returns-in-CountCommand g c = rw c.in-CountCommand.is (then-kept _ c.args.store.now c.args.store.now (reads-same c.args.store.now) c.requires.begun
    (λ clean. counts-posted c.args.days.now c.args.registrar c.args.row c.args.store.now.content (c.requires.there clean) with_command (next_command (counted_in c.args.row)) c.with_command.result refl c.with_command.ensures))

pub returns-in-TakeSerial : goal.returns-in-TakeSerial
returns-in-TakeSerial g c = rw c.in-TakeSerial.is (then-kept _ c.args.store.now c.args.store.now (reads-same c.args.store.now) c.requires.begun
    (λ clean. counts-posted c.args.days.now c.args.registrar c.args.row c.args.store.now.content (c.requires.there clean) with_serial (next_serial (counted_in c.args.row)) c.with_serial.result refl c.with_serial.ensures))
