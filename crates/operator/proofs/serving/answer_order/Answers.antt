use Rattle.std.proofs.Common.{List, ℕ, subst}
use Rattle.operator.specs.{Answers.response_of_kind, Operations.IsSent}
use Rattle.operator.specs.declared.answer.Kind.TheVariants as kinds
use Rattle.operator.proofs.serving.answer_order.Goals as goal

pub returns-clause-does : goal.returns-clause-does
returns-clause-does g c =
    let ordered = c.order_at-ordered.result in
    let sent = subst (λ (text : List ℕ). IsSent (response_of_kind ordered.outcome kinds.Json text) (g.W.Write.contents c.args.writer.now) (g.W.Write.contents c.send.new.writer) c.send.result) c.deref.ensures.value c.send.ensures in
    (c.moment-moment.result, c.moment-moment.ensures, ordered.outcome, ordered.text.items, c.order_at-ordered.ensures.orders, sent)
