use Rattle.std.proofs.Common.{◌⊎◌, Some, inr, sym, subst}
use Rattle.operator.specs.{Operations.{IsFailedOrder, IsMalformedOrder}, declared.answer.Outcome.Outcome}
use Rattle.operator.proofs.OperationLemmas.{unanswered}
use Rattle.operator.proofs.orders.order_at.Goals as goal

pub returns-in-Err-clause-orders : goal.returns-in-Err-clause-orders
returns-in-Err-clause-orders g c =
    let p = c.args.registry.now.policy in
    let body = c.args.body.now in
    let old = g.B.Book.state c.args.registry.now.book in
    let new = g.B.Book.state c.order_on.new.registry.book in
    inr (subst (λ (o : Outcome). IsMalformedOrder body o old new ⊎ IsFailedOrder p body c.args.moment o old new) (sym c.outcome_of_exit.ensures)
    (unanswered p body c.args.moment old new (Some c.new-text.result.items) (Some c.order_on.new.writer.items) c.in-Err.exit (c.in-Err.ensures {u = tt}).stopped))
