use Rattle.std.proofs.Common.{◌∙◌, ap, List}
use Rattle.accounts.specs.declared.line.Line.{Line}
use Rattle.lifecycle.specs.{declared.change.RunningRefund.RunningRefund, Refunds.given_back}
use Rattle.books.proofs.LinesOnLemmas.{back-found}
use Rattle.books.proofs.finding.back_for.Goals as goal

pub returns : goal.returns
returns g c =
    back-found c.args.domain.now c.args.registrar c.in_ok-clock.clock c.in_ok-lines.lines (g.R.Records.kept c.args.records.now) (g.R.Records.kept c.clock.new.self) (g.R.Records.kept c.lines_on.new.self)
    c.in_ok-clock.ensures c.in_ok-lines.ensures c.args.policy.now c.given_back.result
    (c.given_back.ensures.value
    ∙ ap (λ (ls : List Line). given_back c.args.policy.now c.of-refund.result ls) c.account_with-account.ensures
    ∙ ap (λ (r : RunningRefund). given_back c.args.policy.now r c.in_ok-lines.lines) c.of-refund.ensures)
