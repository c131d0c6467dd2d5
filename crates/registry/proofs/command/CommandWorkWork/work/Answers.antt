use Rattle.std.proofs.Common.{ap}
use Rattle.registry.proofs.{Words.{AreChangesMade, IsStep, Stored}, PassingSteps.executed, StepLemmas.{only-read, within-on, works-then}}
use Rattle.registry.proofs.command.CommandWorkWork.work.Goals as goal

pub returns : goal.returns
returns g c =
    let p = c.args.policy.now in
    let it = c.args.self.now in
    let old = g.B.Book.state c.args.book.now in
    let mid = g.B.Book.state c.pass.new.book in
    let looked = g.B.Book.state c.prepare.new.book in
    let passed = c.in_ok-now.ensures in
    let found = c.in_ok-prepared.ensures in
    let prepared = c.in_ok-prepared.prepared in
    works-then c.make_prepared.result (AreChangesMade p prepared.changes prepared.reply)
    (IsStep p it.caller it.command.now it.moment) old looked
    (g.B.Book.state c.make_prepared.new.book) c.requires
    (within-on old mid looked passed.0 (only-read mid looked passed.0.opened found.0 found.1.0))
    (λ clean after reply made.
    executed p it.caller it.command.now it.moment c.in_ok-now.now prepared reply
    old.content.registry mid.content.registry looked.content.registry after
    (passed.1 (found.1.0.clean clean))
    (ap (λ (held : Stored). held.registry) (found.0.content clean)) (found.1.1 clean) made)
    c.make_prepared.ensures
