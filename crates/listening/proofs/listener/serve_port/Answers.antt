use Rattle.std.proofs.Common.{◌∙◌}
use Rattle.eppwire.proofs.FollowLemmas.{follows-on}
use Rattle.policy.specs.Rules.{PolicyRules}
use Rattle.books.specs.Book.{BookState}
use Rattle.server.proofs.ListeningLemmas.{one_more}
use Rattle.listening.proofs.listener.serve_port.Goals as goal

pub turns-preserved : goal.turns-preserved
turns-preserved g c =
    let p : PolicyRules = c.args.registry.policy in
    let q : PolicyRules = c.turns.registry.policy in
    let old : BookState = g.B.Book.state c.args.registry.book in
    let between : BookState = g.B.Book.state c.turns.registry.book in
    let new : BookState = g.B.Book.state c.serve_public-registry.result.book in
    let before = c.turns.invariant in
    let one = c.serve_public-registry.ensures in
    record {
      served = one_more p q c.args.passwords.now old between new before.policy before.served one.served;
      follows = follows-on old between new before.follows one.follows;
      policy = one.policy ∙ before.policy;
    }
