use Rattle.std.proofs.Common.{◌∙◌, List, ℕ}
use Rattle.eppwire.proofs.FollowLemmas.{follows-on}
use Rattle.policy.specs.Rules.{PolicyRules}
use Rattle.books.specs.Book.{BookState}
use Rattle.listening.proofs.PortLemmas.{one_more_turn}
use Rattle.listening.proofs.ports.serve_ports.Goals as goal

pub turns-preserved : goal.turns-preserved
turns-preserved g c =
    let p : PolicyRules = c.args.registry.policy in
    let q : PolicyRules = c.turns.registry.policy in
    let credentials : List ℕ = c.args.office.now.credentials.now in
    let old : BookState = g.B.Book.state c.args.registry.book in
    let between : BookState = g.B.Book.state c.turns.registry.book in
    let new : BookState = g.B.Book.state c.serve_turn-registry.result.book in
    let before = c.turns.invariant in
    let one = c.serve_turn-registry.ensures in
    record {
      served = one_more_turn p q c.args.passwords.now credentials old between new before.policy before.served one.served;
      follows = follows-on old between new before.follows one.follows;
      policy = one.policy ∙ before.policy;
    }
