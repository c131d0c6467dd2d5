use Rattle.std.proofs.{Common.{◌≡◌, ℤ, None, arith, subst, to_z, of_z}, lemmas.Int.ints}
use Rattle.std.specs.Int.{w64}
use Rattle.protocol.specs.declared.order.OperatorRequest.TheVariants as requests
use Rattle.protocol.specs.declared.order.Order.TheVariants as orders
use Rattle.tldreg.specs.inner.Ends.{EndsRequest}
use Rattle.tldreg.proofs.deposit.Goals as goal

pub returns-clause-ends : goal.returns-clause-ends
returns-clause-ends g c =
    let old = g.B.Book.state c.args.registry.now.book in
    let new = g.B.Book.state c.deposit_to.new.registry.book in
    let same : to_z w64 (of_z w64 c.args.cents) ≡ c.args.cents = omega (arith, ints) in
    subst (λ (cents : ℤ). EndsRequest c.args.registry.now.policy (requests.Order (orders.Deposit c.args.registrar.now cents)) c.args.moment old new None None c.deposit_to.result) same c.deposit_to.ensures.ends
