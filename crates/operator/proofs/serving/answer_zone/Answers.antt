use Rattle.std.proofs.Common.{List, ℕ, inl, subst}
use Rattle.operator.specs.{Answers.response_of_kind, Operations.IsSent}
use Rattle.operator.specs.declared.answer.Kind.TheVariants as kinds
use Rattle.operator.specs.declared.answer.Outcome.TheVariants as outcomes
use Rattle.operator.proofs.serving.answer_zone.Goals as goal

pub returns-in-Some-clause-does : goal.returns-in-Some-clause-does
returns-in-Some-clause-does g c =
    let sent = subst (λ (text : List ℕ). IsSent (response_of_kind outcomes.Done kinds.Dns text) (g.W.Write.contents c.args.writer.now) (g.W.Write.contents c.send.new.writer) c.send.result)
    c.deref.ensures.value c.send.ensures in
    (c.moment-moment.result, c.moment-moment.ensures, c.zone_at.ensures.passes, inl (c.in-Some.text.items, c.in-Some.ensures.text, sent))
