use Rattle.std.proofs.Common.{ap, sym, take, ◌∙◌}
use Rattle.sqldomains.proofs.{Words.{domain_with_id, rows_of}, AnswerLemmas.first-in}
use Rattle.sqldomains.proofs.linked.domain_at.Goals as goal

pub returns-in-Some : goal.returns-in-Some
returns-in-Some g c =
    let asked = c.in_ok-rows.ensures {u = tt} in
    (asked.0, λ e. first-in (domain_with_id c.new-number.result) c.args.store.now.content.domains c.in-Some.row (ap (take 1) (sym (asked.1 e) ∙ c.in_ok-only.ensures {u = tt} ∙ ap rows_of c.in-Some.is)))
