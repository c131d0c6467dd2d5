use Rattle.std.proofs.Common.{refl, subst, sym}
use Rattle.operator.specs.{Answers.refusal, Operations.{DoesAsked, IsSent}, declared.{answer.Outcome.Outcome, request.Asked.Asked}}
use Rattle.operator.proofs.serving.answer.Goals as goal

pub returns-in-Refused-clause-does : goal.returns-in-Refused-clause-does
returns-in-Refused-clause-does g c =
    let before = g.W.Write.contents c.args.writer.now in
    let after = g.W.Write.contents c.refuse.new.writer in
    let clock = g.C.Clock.moments c.args.clock.now in
    let state = g.B.Book.state c.args.registry.now.book in
    let sent = subst (λ (outcome : Outcome). IsSent (refusal outcome) before after c.refuse.result) c.outcome_of.ensures c.refuse.ensures in
    subst (λ (asked : Asked). DoesAsked c.args.registry.now.policy asked c.args.body.now clock clock state state before after c.refuse.result) (sym c.in-Refused.is) (refl, refl, sent)
