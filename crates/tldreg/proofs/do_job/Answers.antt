use Rattle.std.proofs.{Common.{◌≡◌, ℤ, List, ℕ, None, arith, sym, subst, to_z, of_z}, lemmas.Int.ints}
use Rattle.std.specs.Int.{w64}
use Rattle.protocol.specs.declared.order.OperatorRequest.TheVariants as requests
use Rattle.protocol.specs.declared.order.Order.TheVariants as orders
use Rattle.tldreg.specs.{declared.command_line.Job.Job, inner.Ends.{EndsJob, EndsOrder, EndsRequest}}
use Rattle.tldreg.proofs.do_job.Goals as goal

pub returns-in-Zone-clause-ends : goal.returns-in-Zone-clause-ends
returns-in-Zone-clause-ends g c = rw c.in-Zone.is c.zone.ensures

pub returns-in-Zone-clause-follows : goal.returns-in-Zone-clause-follows
returns-in-Zone-clause-follows g c = c.zone.ensures.4.follows

pub returns-in-Deposit-clause-ends : goal.returns-in-Deposit-clause-ends
returns-in-Deposit-clause-ends g c =
    let p = c.args.registry.now.policy in
    let it = c.in-Deposit in
    let old = g.B.Book.state c.args.registry.now.book in
    let new = g.B.Book.state c.deposit.new.registry.book in
    let ended = c.deposit.result in
    let same : to_z w64 (of_z w64 it.cents) ≡ it.cents = omega (arith, ints) in
    let asked = subst (λ (cents : ℤ). EndsRequest p (requests.Order (orders.Deposit c.as_str.result.now cents)) it.moment old new None None ended) same c.deposit.ensures.ends in
    subst (λ (job : Job). EndsJob p job old new ended) (sym c.in-Deposit.is)
    (subst (λ (name : List ℕ). EndsRequest p (requests.Order (orders.Deposit name it.cents)) it.moment old new None None ended) c.as_str.ensures.value asked)

pub returns-in-Order-clause-ends : goal.returns-in-Order-clause-ends
returns-in-Order-clause-ends g c =
    let p = c.args.registry.now.policy in
    let old = g.B.Book.state c.args.registry.now.book in
    let new = g.B.Book.state c.order.new.registry.book in
    subst (λ (job : Job). EndsJob p job old new c.order.result) (sym c.in-Order.is)
    (subst (λ (json : List ℕ). EndsOrder p json c.in-Order.moment old new None None c.order.result) c.as_str-in-Order.ensures.value c.order.ensures.ends)
