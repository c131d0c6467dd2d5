use Rattle.std.proofs.Common.{List, length, ap, arith}
use Rattle.lifecycle.specs.declared.due_object.Due.{Due}
use Rattle.registry.proofs.LapseSteps.{settled}
use Rattle.registry.proofs.settlement.SettlementWorkWork.work.Goals as goal

pub returns : goal.returns
returns g c =
    settled c.args.policy.now c.args.self.now.moment c.args.self.now.at_most c.in_ok-now.now
    _ c.in_ok-due.due
    (g.B.Book.state c.args.book.now) (g.B.Book.state c.move_clock.new.book)
    (g.B.Book.state c.due.new.self) (g.B.Book.state c.lapse_each.new.book)
    c.in_ok-now.ensures c.in_ok-due.ensures (omega (arith, c.min-count.ensures, ap (λ (ds : List Due). length ds) c.as_slice.ensures)) c.in_ok-lapse_each.ensures
