use Rattle.std.proofs.Common.{rules}
use Rattle.streams.proofs.MoveLemmas.{OnErr-from}
use Rattle.script.proofs.OrderLemmas.{whole_begun}
use Rattle.script.proofs.order.print_answer.Goals as goal

pub returns-in_err-flush-clause-begun : goal.returns-in_err-flush-clause-begun
returns-in_err-flush-clause-begun g c =
    OnErr-from c.from_residual-in_err-flush.result (whole_begun _ _ _ c.deref.result.now _ c.in_ok-write_all.ensures.ok (search rules) c.in_err-flush.ensures.bytes)
