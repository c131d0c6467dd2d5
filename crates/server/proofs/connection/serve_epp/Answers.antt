use Rattle.std.proofs.Common.{refl}
use Rattle.server.proofs.ConnectionLemmas.{served}
use Rattle.server.proofs.connection.serve_epp.Goals as goal

pub returns : goal.returns
returns g c =
    let s = c.serve_session-end.ensures in
    let is = served (λ x. x.registry.policy) (λ x. x.passwords.now) (λ x. record { caller = x.caller; book = g.B.Book.state x.registry.book }) _ (λ old new moment payload outcome a. a) c.args.registry.policy c.args.passwords.now (g.B.Book.state c.args.registry.book) (g.B.Book.state c.into_registry.result.book) _ s.0 _ c.serve_session-end.result (rw c.new-connection.ensures.registry refl) c.new-connection.ensures.passwords (rw (c.new-connection.ensures.registry, c.new-connection.ensures.caller) refl) (rw c.into_registry.ensures refl) s.2 in
    record { served = (c.serve_session-end.result, refl, (s.0, s.1, is.1)); policy = rw c.into_registry.ensures is.0 }
