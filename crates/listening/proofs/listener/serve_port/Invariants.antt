use Rattle.std.proofs.Common.{◌≡◌}
use Rattle.server.specs.Listening.{ServesInTurn}
use Rattle.books.specs.Book.{Follows}
use Rattle.listening.proofs.listener.serve_port.Given as goal

abbrev pub invariant-turns : goal.invariant-turns
invariant-turns g l = record {
  served : ServesInTurn l.fn.registry.policy l.fn.passwords (g.B.Book.state l.fn.registry.book) (g.B.Book.state l.registry.book);
  follows : Follows (g.B.Book.state l.fn.registry.book) (g.B.Book.state l.registry.book);
  policy : l.registry.policy ≡ l.fn.registry.policy;
}
