use Rattle.std.proofs.lemmas.Result.{err_from_is_err_and}
use Rattle.registry.specs.Crashes.{Makes}
use Rattle.registry.proofs.CallsKept.{step_gave_up, step_kept, step_went_back}
use Rattle.registry.proofs.registry.Registry.transact.Goals as goal

pub returns-in_err-begin-clause-keeps : goal.returns-in_err-begin-clause-keeps
returns-in_err-begin-clause-keeps g c =
    let p = err_from_is_err_and c.from_residual.result c.from_residual.ensures.1 in
    rw p.1 (step_gave_up c.args.self.now.policy (Makes (g.W.Work.step c.args.work.now c.args.self.now.policy)) p.0
    (g.B.Book.state c.args.self.now.book) (g.B.Book.state c.begin.new.self) c.in_err-begin.ensures.1.0 c.in_err-begin.ensures.1.1)

pub returns-in-Ok-clause-keeps : goal.returns-in-Ok-clause-keeps
returns-in-Ok-clause-keeps g c =
    step_kept c.args.self.now.policy (g.W.Work.step c.args.work.now c.args.self.now.policy)
    c.in-Ok.answer
    (g.B.Book.state c.args.self.now.book) (g.B.Book.state c.begin.new.self)
    (g.B.Book.state c.keep.new.book) c.in_ok-begin.ensures c.in-Ok.ensures

pub returns-in-Err-clause-keeps : goal.returns-in-Err-clause-keeps
returns-in-Err-clause-keeps g c =
    rw c.from.ensures (step_went_back c.args.self.now.policy
    (g.W.Work.step c.args.work.now c.args.self.now.policy) c.in-Err.fault
    (g.B.Book.state c.args.self.now.book) (g.B.Book.state c.begin.new.self)
    (g.B.Book.state c.keep.new.book) c.in_ok-begin.ensures c.in-Err.ensures)
