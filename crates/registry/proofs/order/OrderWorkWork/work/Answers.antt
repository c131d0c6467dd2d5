use Rattle.std.proofs.{Common.{◌≡◌, arith, to_z, of_z}, lemmas.Int.ints}
use Rattle.std.specs.Int.{w64}
use Rattle.registry.proofs.{Words.{deposit_decision, IsOrderCarriedOut, IsOrderStep}, PassingSteps.deposited, StepLemmas.works-then}
use Rattle.protocol.specs.declared.order.Order.TheVariants as orders
use Rattle.registry.proofs.order.OrderWorkWork.work.Goals as goal

pub returns-in_ok-now-in-Deposit : goal.returns-in_ok-now-in-Deposit
returns-in_ok-now-in-Deposit g c =
    let p = c.args.policy.now in
    let id = c.in-Deposit.registrar in
    let now = c.in_ok-now-in-Deposit.now in
    let old = g.B.Book.state c.args.book.now in
    let mid = g.B.Book.state c.pass.new.book in
    let paid : to_z w64 (of_z w64 c.in-Deposit.cents) ≡ c.in-Deposit.cents = omega (arith, ints) in
    rw c.in-Deposit.is (works-then c.deposit.result (IsOrderCarriedOut p (deposit_decision p now id c.in-Deposit.cents))
    (IsOrderStep p (orders.Deposit id c.in-Deposit.cents) c.args.self.now.moment) old mid
    (g.B.Book.state c.deposit.new.book)
    c.requires c.in_ok-now-in-Deposit.ensures.0
    (λ clean after code. deposited p id c.in-Deposit.cents c.args.self.now.moment now old.content.registry
    mid.content.registry after code (c.in_ok-now-in-Deposit.ensures.1 clean))
    (rw paid at c.deposit.ensures))
