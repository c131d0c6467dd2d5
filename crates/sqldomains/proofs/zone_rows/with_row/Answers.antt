use Rattle.std.proofs.Common.{Some, option_map, sym, ap, ◌∙◌}
use Rattle.sqldomains.proofs.Words.{delegated, domain_by, with_one}
use Rattle.sqldomains.proofs.zone_rows.with_row.Goals as goal

pub returns : goal.returns
returns g c =
    let told = c.in_ok-domain.ensures {u = tt} in
    let links = c.in_ok-links.ensures {u = tt} in
    let transfers = c.in_ok-transfers.ensures {u = tt} in (
      told.0,
      λ e. ap (λ o. with_one c.args.all (option_map delegated o)) ((λ i. domain_by c.args.store.now.content c.args.row (sym links i) (sym transfers i)) ∙ told.1 e)
          ∙ ap Some (sym (c.in_ok-with_domain.ensures {u = tt})),
    )
