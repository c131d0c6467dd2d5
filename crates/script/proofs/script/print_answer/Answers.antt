use Rattle.std.proofs.{Common.{◌++◌, codes, inr, refl, sym, ◌∙◌}, lemmas.Result.err_from_is_err_and}
use Rattle.script.specs.declared.exit.Exit.TheVariants as exits
use Rattle.script.proofs.{AnswerLemmas.{by_told, lost_told}, BeginLemmas.{breaks_told, fault_of_kind, pending_front}}
use Rattle.script.proofs.RunLemmas.{TellsLine-one}
use Rattle.script.proofs.script.print_answer.Goals as goal

pub returns-clause-is_printed : goal.returns-clause-is_printed
returns-clause-is_printed g c =
    λ clean. TellsLine-one _ _ _ _ _ _ _ (sym c.is_empty.ensures ∙ c.if-is_empty.false) (by_told _ _ _ c.in-Some-text_of.ensures c.in-Some.ensures.answered clean) c.in_ok-print.ensures.printed

pub returns-in_err-print-clause-broken : goal.returns-in_err-print-clause-broken
returns-in_err-print-clause-broken g c =
    let gave = err_from_is_err_and c.from_residual.result c.from_residual.ensures.1 in
    rw (gave.1, gave.2) (λ clean. breaks_told _ _ _ _ _ _ _ _ _ (fault_of_kind _) (sym c.is_empty.ensures ∙ c.if-is_empty.false) (by_told _ _ _ c.in-Some-text_of.ensures c.in-Some.ensures.answered clean) c.in_err-print.ensures.begun)

pub returns-in_default-text_of-clause-broken : goal.returns-in_default-text_of-clause-broken
returns-in_default-text_of-clause-broken g c =
    let lost = lost_told _ _ (c.in_default-text_of.ensures {u = tt}) c.in-Some.ensures.answered in
    λ clean. breaks_told exits.Memory _ _ lost.0 _ _ _ _ _ (inr refl) (sym c.is_empty.ensures ∙ c.if-is_empty.false) (lost.1 clean) (pending_front (g.W.Write.contents c.args.writer.now) c.args.pending.now.items (lost.0 ++ codes "\n"))
