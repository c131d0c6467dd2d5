use Rattle.std.proofs.Common.{◌≡◌, Some, ap, subst, ◌∙◌, filter, map}
use Rattle.sqldomains.proofs.{Words.{empty, HostRow, is_below, reads-on, with_hosts}, BelowLemmas.below-listed}
use Rattle.sqldomains.proofs.below.hosts_below.Goals as goal

pub returns : goal.returns
returns g c =
    let xs = c.args.store.now.content in
    let domain = c.args.domain.now in
    let names = c.in_ok-names.names in
    let asked = c.in_ok-rows.ensures in
    let told = c.in_ok-names.ensures {u = tt} in (
      reads-on c.args.store.now c.rows_around.new.store c.with_hosts.new.store asked.0 told.0,
      λ e.
          let before = told.0.clean e in
          c.in_ok-listed.ensures {u = tt}
          ∙ below-listed xs domain names
          (subst (λ found. with_hosts xs empty found ≡ Some names)
          (c.in_ok-found.ensures {u = tt} ∙ ap (λ rows. filter (is_below domain) (map (λ (r : HostRow). r.name) rows)) (asked.1 before))
          (subst (λ ys. with_hosts ys empty c.in_ok-found.found ≡ Some names) (asked.0.content before) (told.1 e))),
    )
