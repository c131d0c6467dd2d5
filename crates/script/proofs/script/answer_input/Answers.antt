use Rattle.std.proofs.{Common.{ap, inr, ◌∙◌}, lemmas.Result.err_from_is_err_and}
use Rattle.script.proofs.{BeginLemmas.{fault_by, never_begun}, EndLemmas.{Ends-buffered, Ends-unflushed, Ends-unwritten}}
use Rattle.script.specs.inner.Runs.{run_end}
use Rattle.script.proofs.script.answer_input.Goals as goal

pub returns-in_err-reader-clause-ends : goal.returns-in_err-reader-clause-ends
returns-in_err-reader-clause-ends g c =
    let gave = err_from_is_err_and c.from_residual.result c.from_residual.ensures.1 in
    never_begun _ (run_end c.from_residual.result) _ _ _ _ (fault_by _ _ (ap run_end gave.1 ∙ gave.2))

pub returns-in_err-pending-clause-ends : goal.returns-in_err-pending-clause-ends
returns-in_err-pending-clause-ends g c =
    let gave = err_from_is_err_and c.from_residual-in_err-pending.result c.from_residual-in_err-pending.ensures.1 in
    never_begun _ (run_end c.from_residual-in_err-pending.result) _ _ _ _ (inr (ap run_end gave.1 ∙ gave.2))

pub returns-clause-ends : goal.returns-clause-ends
returns-clause-ends g c =
    Ends-buffered _ (run_end c.answer_lines-answered.result) _ _ _ _ _ _ _ _ _ _ _ _ _
    c.in_ok-reader.ensures.capacity c.in_ok-reader.ensures.empty (ap g.R.Read.remaining c.in_ok-reader.ensures.inner) c.in_ok-pending.ensures.items
    c.answer_lines-answered.ensures.ends c.in_ok-write_pending.ensures.bytes c.flush.ensures.bytes

pub returns-in_err-write_pending-clause-ends : goal.returns-in_err-write_pending-clause-ends
returns-in_err-write_pending-clause-ends g c =
    let gave = err_from_is_err_and c.from_residual-in_err-write_pending.result c.from_residual-in_err-write_pending.ensures.1 in
    Ends-unwritten _ (run_end c.answer_lines-answered.result) _ _ _ _ _ _ _ _ _ _ _ _ _ _ (fault_by _ _ (ap run_end gave.1 ∙ gave.2))
    c.in_ok-reader.ensures.capacity c.in_ok-reader.ensures.empty (ap g.R.Read.remaining c.in_ok-reader.ensures.inner) c.in_ok-pending.ensures.items
    c.answer_lines-answered.ensures.ends c.answer_lines-answered.ensures.sent.1 c.in_err-write_pending.ensures.begun

pub returns-in_err-flush-clause-ends : goal.returns-in_err-flush-clause-ends
returns-in_err-flush-clause-ends g c =
    let gave = err_from_is_err_and c.from_residual-in_err-flush.result c.from_residual-in_err-flush.ensures.1 in
    Ends-unflushed _ (run_end c.answer_lines-answered.result) _ _ _ _ _ _ _ _ _ _ _ _ _ _ (fault_by _ _ (ap run_end gave.1 ∙ gave.2))
    c.in_ok-reader.ensures.capacity c.in_ok-reader.ensures.empty (ap g.R.Read.remaining c.in_ok-reader.ensures.inner) c.in_ok-pending.ensures.items
    c.answer_lines-answered.ensures.ends c.in_ok-write_pending.ensures.bytes c.flush.ensures.bytes
