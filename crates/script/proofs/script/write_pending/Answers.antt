use Rattle.std.proofs.Common.{ℕ, List, subst}
use Rattle.std.specs.Prelude.{OnErr}
use Rattle.script.specs.inner.Runs.{AppendsFront}
use Rattle.script.proofs.BeginLemmas.{write_front}
use Rattle.script.proofs.script.write_pending.Goals as goal

pub returns-clause-begun : goal.returns-clause-begun
returns-clause-begun g c =
    let written = c.write_all-written in
    let before = g.W.Write.contents c.args.writer.now in
    let after = g.W.Write.contents written.new.writer in
    subst (λ (bytes : List ℕ). OnErr written.result (AppendsFront before after bytes)) c.deref.ensures.value (write_front written.result before after c.deref.result.now written.ensures.err)
