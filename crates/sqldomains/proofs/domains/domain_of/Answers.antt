use Rattle.std.proofs.Common.{sym, ap, ◌∙◌, filter}
use Rattle.sqldomains.proofs.{Words.{domain_by, link_with_domain, reads-on, transfer_with_domain}, FoundLemmas.asked-finds}
use Rattle.sqldomains.proofs.domains.domain_of.Goals as goal

pub returns : goal.returns
returns g c =
    let old = c.args.store.now in
    let between = c.links_by_domain.new.self in
    let links = c.in_ok-links.ensures {u = tt} in
    let transfers = c.in_ok-transfers.ensures {u = tt} in
    let both = reads-on old between c.transfers_by_domain.new.self links.0 transfers.0 in
    asked-finds c.domain_by.result _ _ old c.transfers_by_domain.new.self c.domain_by.new.store both c.domain_by.ensures (λ domain e is.
    let own = links.1 (transfers.0.clean e) ∙ ap (λ id. filter (link_with_domain id) old.content.links) c.number_of.ensures in
    let last = transfers.1 e ∙ (λ i. filter (transfer_with_domain (c.number_of-2.ensures i)) (links.0.content (transfers.0.clean e) i).transfers) in
    (λ i. domain_by (sym (both.content e) i) c.args.row (sym own i) (sym last i)) ∙ is)
