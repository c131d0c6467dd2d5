use Rattle.std.proofs.lemmas.Result.{err_from_is_err_and}
use Rattle.script.proofs.OrderLemmas.{machine_end}
use Rattle.script.proofs.order.answer_on.Goals as goal

pub returns-in_err-print_answer-in-Ok-clause-stopped : goal.returns-in_err-print_answer-in-Ok-clause-stopped
returns-in_err-print_answer-in-Ok-clause-stopped g c =
    let gave = err_from_is_err_and c.from_residual.result c.from_residual.ensures.1 in
    rw (gave.1, gave.2) (machine_end c.args.registry.now.policy c.args.request c.args.moment c.in-Ok.answer.code c.in-Ok.answer.lapsed _ _ _ _ _
    c.in_err-print_answer-in-Ok.ensures.stopped c.in-Ok.ensures.answered c.in_err-print_answer-in-Ok.ensures.begun)
