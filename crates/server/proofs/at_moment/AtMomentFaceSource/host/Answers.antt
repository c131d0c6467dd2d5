use Rattle.std.proofs.Common.{refl}
use Rattle.server.proofs.{HttpLemmas.shown_by, PassingLemmas.passes_by}
use Rattle.server.proofs.at_moment.AtMomentFaceSource.host.Goals as goal

pub returns : goal.returns
returns g c =
    let it = c.host_face.ensures in
    record {
      found = shown_by _ _ _ _ (λ faces. faces.host c.args.name.now) _ (g.B.Book.state c.args.self.now.registry.book) (g.B.Book.state c.host_face.new.self.book) it.keeps.policy it.step it.late;
      policy = it.keeps.policy;
      left = (passes_by _ _ _ _ _ _ _ _ _ it.step it.keeps it.fault, it.keeps.policy, refl);
    }
