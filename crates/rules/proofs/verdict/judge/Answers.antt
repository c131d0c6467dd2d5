use Rattle.std.proofs.Common.{◌≡◌, IfOk, subst, sym}
use Rattle.protocol.specs.declared.command.Command.{Command}
use Rattle.rules.specs.{Laws.AnswersLawfully, Verdicts.judged, declared.verdict.Verdict.Verdict}
use Rattle.rules.proofs.LawLemmas.{answers-lawfully}
use Rattle.rules.proofs.verdict.judge.Goals as goal

pub returns-in-Asked-clause-verdict : goal.returns-in-Asked-clause-verdict
unfolding judged
returns-in-Asked-clause-verdict c =
    subst (λ (d : Command). IfOk c.answer.result (λ (v : Verdict). v ≡ judged c.args.policy.now c.args.caller c.args.moment d c.args.facts.now)) (sym c.in-Asked.is) c.answer.ensures

pub returns-in-Asked-clause-laws : goal.returns-in-Asked-clause-laws
unfolding AnswersLawfully
returns-in-Asked-clause-laws c =
    subst (λ (d : Command). IfOk c.answer.result (AnswersLawfully c.args.policy.now c.args.caller c.args.moment d c.args.facts.now)) (sym c.in-Asked.is)
    (answers-lawfully c.args.policy.now c.args.caller c.args.moment _ c.args.facts.now c.answer.result c.answer.ensures)
