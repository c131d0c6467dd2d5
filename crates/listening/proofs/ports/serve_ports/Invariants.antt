use Rattle.std.proofs.Common.{◌≡◌}
use Rattle.listening.specs.Ports.{ServesPorts}
use Rattle.books.specs.Book.{Follows}
use Rattle.listening.proofs.ports.serve_ports.Given as goal

abbrev pub invariant-turns : goal.invariant-turns
invariant-turns g l = record {
  served : ServesPorts l.fn.registry.policy l.fn.passwords l.fn.office.credentials.now (g.B.Book.state l.fn.registry.book) (g.B.Book.state l.registry.book);
  follows : Follows (g.B.Book.state l.fn.registry.book) (g.B.Book.state l.registry.book);
  policy : l.registry.policy ≡ l.fn.registry.policy;
}
