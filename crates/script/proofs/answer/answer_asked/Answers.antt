use Rattle.std.proofs.Common.{sym, ◌∙◌}
use Rattle.script.proofs.AnswerLemmas.{order_answered, registrar_answered}
use Rattle.script.proofs.answer.answer_asked.Goals as goal

pub returns-in-Some-clause-answered : goal.returns-in-Some-clause-answered
returns-in-Some-clause-answered g c = registrar_answered _ _ _ _ _ _ c.args.line.now.sender _ c.in-Some.ensures c.answer_registrar.ensures.answered

pub returns-in-Ok-Some-clause-answered : goal.returns-in-Ok-Some-clause-answered
returns-in-Ok-Some-clause-answered g c =
    order_answered c.args.line.now.sender c.args.registry.now.policy c.in-Ok-Some.request c.args.line.now.payload.now c.args.line.now.moment _ _ _ _ (c.in-None.ensures {u = tt})
    (sym (c.in-Ok-Some.ensures {u = tt}) ∙ c.in-Ok-Some.field-0-is) c.answer_operator.ensures.answered
