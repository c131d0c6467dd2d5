use Rattle.script.specs.Lines.{asked_by_line}
use Rattle.script.proofs.AnswerLemmas.{line_answered}
use Rattle.script.proofs.answer.answer.Goals as goal

pub returns-in-None-clause-unread : goal.returns-in-None-clause-unread
returns-in-None-clause-unread g c =
    let none = rw c.policy.ensures at c.in-None.ensures.none in
    λ asked line _. none asked line

pub returns-in-Some-clause-answered : goal.returns-in-Some-clause-answered
returns-in-Some-clause-answered g c =
    line_answered c.answer_asked.result c.args.registry.now.policy c.policy.result.now c.args.line.now (asked_by_line c.in-Some.line) _ _ _ c.policy.ensures (c.in-Some.ensures {u = tt}).line c.answer_asked.ensures.answered
