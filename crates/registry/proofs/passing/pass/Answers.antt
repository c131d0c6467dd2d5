use Rattle.registry.specs.inner.Passing.{extent_of}
use Rattle.registry.proofs.PassingSteps.{passes}
use Rattle.registry.proofs.passing.pass.Goals as goal

pub returns : goal.returns
returns g c =
    passes c.args.policy.now (extent_of c.args.scope.now) c.args.moment c.in_ok-now.now
    (g.B.Book.state c.args.book.now) (g.B.Book.state c.move_clock.new.book)
    (g.B.Book.state c.catch_up.new.book) c.in_ok-now.ensures c.in_ok-catch_up.ensures
