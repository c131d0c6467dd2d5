use Rattle.tldreg.proofs.order_to.Goals as goal

pub returns-clause-ends : goal.returns-clause-ends
returns-clause-ends g c =
    let is_printed = rw c.as_bytes.ensures.value at c.order_on.ensures.is_printed in
    let stopped = rw c.as_bytes.ensures.value at c.order_on.ensures.stopped in
    (c.order_on.result, c.request_end.ensures, is_printed, stopped)
