use Rattle.std.proofs.Common.{inr, refl}
use Rattle.eppreplies.specs.Answer.{answer_text}
use Rattle.script.proofs.AnswerLemmas.{operator_steps}
use Rattle.script.proofs.answer.answer_operator.Goals as goal

pub returns-in-Ok-order_bytes-clause-answered : goal.returns-in-Ok-order_bytes-clause-answered
returns-in-Ok-order_bytes-clause-answered g c =
    λ clean. inr (operator_steps _ c.args.request _ _ _ _ _ _ c.in-Ok.ensures.answered c.in-Ok.ensures.early c.in-Ok-order_bytes.ensures clean)

pub returns-in-Err-order_bytes-clause-answered : goal.returns-in-Err-order_bytes-clause-answered
returns-in-Err-order_bytes-clause-answered g c =
    (answer_text c.in-Ok.answer.code c.in-Ok.answer.lapsed, λ clean. inr (operator_steps _ c.args.request _ _ _ _ _ _ c.in-Ok.ensures.answered c.in-Ok.ensures.early refl clean))
