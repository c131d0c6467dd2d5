use Rattle.std.proofs.Common.{ap, refl}
use Rattle.books.specs.Book.{Stored}
use Rattle.registry.proofs.OpenedLemmas.{opens-kept, opens-lengths, opens-same}
use Rattle.isolation.proofs.RunLemmas.{alike-lists-tell-the-same}
use Rattle.registry.proofs.registry.Registry.open.Goals as goal

pub returns-in-Ok-clause-opened : goal.returns-in-Ok-clause-opened
returns-in-Ok-clause-opened g c =
    let old = g.B.Book.state c.args.book in
    let new = g.B.Book.state c.open_in.new.book in
    record {
      policy = refl;
      opens = c.in-Ok.ensures.0;
      ours = c.in-Ok.ensures.1.0;
      well_formed = opens-kept c.args.policy old new c.in-Ok.ensures.0;
      has_terms = λ clean. ap (λ (held : Stored). held.terms) (c.in-Ok.ensures.0.content clean);
      tells_alike = λ clean. alike-lists-tell-the-same c.args.policy new.content.registry;
      crash = c.in-Ok.ensures.1.1.0;
      follows = c.in-Ok.ensures.1.1.1;
    }

pub returns-in-Ok-clause-lengths : goal.returns-in-Ok-clause-lengths
returns-in-Ok-clause-lengths g c = opens-lengths c.args.policy (g.B.Book.state c.args.book)
    (g.B.Book.state c.open_in.new.book) c.in-Ok.ensures.0

pub returns-in-Ok-clause-same : goal.returns-in-Ok-clause-same
returns-in-Ok-clause-same g c = opens-same c.args.policy (g.B.Book.state c.args.book)
    (g.B.Book.state c.open_in.new.book) c.in-Ok.ensures.0
