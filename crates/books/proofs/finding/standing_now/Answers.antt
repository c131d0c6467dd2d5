use Rattle.std.proofs.Common.{◌∙◌, ap, refl, List}
use Rattle.accounts.specs.declared.line.Line.{Line}
use Rattle.lifecycle.specs.Graces.{standing}
use Rattle.books.proofs.LinesOnLemmas.{standing-found}
use Rattle.books.proofs.finding.standing_now.Goals as goal

pub returns : goal.returns
returns g c =
    standing-found c.args.domain.now c.args.domain.now.sponsor c.in_ok-clock.clock c.in_ok-lines.lines (g.R.Records.kept c.args.records.now) (g.R.Records.kept c.clock.new.self) (g.R.Records.kept c.lines_on.new.self)
    c.in_ok-clock.ensures c.in_ok-lines.ensures c.args.policy.now c.standing.result refl
    (c.standing.ensures ∙ ap (λ (ls : List Line). standing c.args.policy.now c.in_ok-clock.clock ls c.args.domain.now) c.account_with-sponsor.ensures)
