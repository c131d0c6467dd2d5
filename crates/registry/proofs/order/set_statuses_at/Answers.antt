use Rattle.registry.proofs.{Words.{IsOrderCarriedOut, IsOrderStep, status_at}, PassingSteps.ordered, StepLemmas.works-then}
use Rattle.protocol.specs.declared.order.Order.TheVariants as orders
use Rattle.registry.proofs.order.set_statuses_at.Goals as goal

pub returns : goal.returns
returns g c =
    let p = c.args.policy.now in
    let o = c.args.order.now in
    let name = c.in_ok-name.name in
    let old = g.B.Book.state c.args.book.now in
    let mid = g.B.Book.state c.pass.new.book in
    let read = rw c.zone.ensures at c.object_name.ensures in
    let named = rw c.in_ok-name.ensures.0 at read in
    let passed = rw c.in_ok-name.ensures.1 at c.in_ok-pass.ensures in
    works-then c.set_statuses.result
    (λ before after code. IsOrderCarriedOut p (status_at o name before) before after code)
    (IsOrderStep p (orders.Status o) c.args.moment) old mid
    (g.B.Book.state c.set_statuses.new.book)
    c.requires passed.0 (λ clean after code. ordered p o c.args.moment c.in_ok-pass.field-0 name
    old.content.registry mid.content.registry after code named
    (passed.1 clean)) c.set_statuses.ensures
