use Rattle.std.proofs.Common.{List, length, ap}
use Rattle.lifecycle.specs.declared.due_object.Due.{Due}
use Rattle.registry.proofs.BacklogSteps.{shown}
use Rattle.registry.proofs.backlog.BacklogWorkWork.work.Goals as goal

pub returns : goal.returns
returns g c =
    shown c.args.policy.now c.args.self.now.moment c.in_ok-clock.clock c.later.result _ c.in_ok-due.due
    (g.B.Book.state c.args.book.now) (g.B.Book.state c.clock.new.self) (g.B.Book.state c.due.new.self) c.requires
    c.in_ok-clock.ensures c.later.ensures c.in_ok-due.ensures (ap (λ (ds : List Due). length ds) c.as_slice.ensures)
