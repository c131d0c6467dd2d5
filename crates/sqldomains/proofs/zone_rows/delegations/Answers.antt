use Rattle.std.proofs.Common.{◌∙◌}
use Rattle.sqldomains.proofs.DelegationLemmas.{all-listed}
use Rattle.sqldomains.proofs.zone_rows.delegations.Goals as goal

pub returns : goal.returns
returns g c =
    let told = c.in_ok-all.ensures {u = tt} in (
      told.0,
      λ e. c.in_ok-listed.ensures {u = tt} ∙ all-listed c.args.store.now.content (c.show_consistent.ensures (told.0.clean e)) c.in_ok-all.all (told.1 e),
    )
