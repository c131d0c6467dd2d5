use Rattle.std.proofs.Common.{rules, ◌≢◌}
use Rattle.states.specs.declared.readiness.Ready.TheVariants.{Other}
use Rattle.registry.proofs.OpeningLemmas.{opens_after}
use Rattle.registry.proofs.opening.open_in.Goals as goal

pub returns-in-Ok-Empty : goal.returns-in-Ok-Empty
returns-in-Ok-Empty g c =
    let ours : c.in-Ok-Empty.field-0 ≢ Other = search rules in
    opens_after c.open_ours.result c.in-Ok-Empty.field-0 c.args.policy.now
    (g.B.Book.state c.args.book.now) (g.B.Book.state c.ready.new.self)
    (g.B.Book.state c.open_ours.new.book)
    c.requires ours c.in-Ok-Empty.ensures c.open_ours.ensures
