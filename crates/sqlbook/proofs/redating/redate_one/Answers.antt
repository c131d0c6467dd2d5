use Rattle.std.proofs.Common.{Some, is_some, sym, ap, ◌∙◌}
use Rattle.sqlbook.proofs.{Words.{asked-then, IsReplaced, MeansSame}, RedatingLemmas.put-again}
use Rattle.sqlbook.proofs.redating.redate_one.Goals as goal

pub returns : goal.returns
returns g c =
    let name = c.args.name.now in
    let domain = c.in-Some.domain in
    let due = c.end_of_deletion-due.result in
    let old = c.args.store.now in
    let new = c.replace-replaced.new.store in
    let asked = c.in_ok-domain.ensures in
    let made = c.in_ok-replaced.ensures {u = tt} in
    asked-then (IsReplaced name (Some domain) (Some domain) due) MeansSame old c.domain.new.store new asked.found.0 made
    (λ e it. put-again name domain due old.content new.content (c.show_consistent.ensures (asked.found.0.clean (made.clean e))) it (sym (asked.found.1 (made.clean e)) ∙ c.in-Some.is) (ap is_some c.in-Some-deletion.is))
