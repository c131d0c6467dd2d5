use Rattle.std.proofs.Common.{sym, ap, ◌∙◌, filter}
use Rattle.sqldomains.proofs.{Words.{Content, reads-on, transfer_of_domains, with_rows}, FoundLemmas.asked-finds}
use Rattle.sqldomains.proofs.zone_rows.with_page.Goals as goal

pub returns : goal.returns
returns g c =
    let old = c.args.store.now in
    let between = c.links_of_domains.new.self in
    let links = c.in_ok-links.ensures {u = tt} in
    let transfers = c.in_ok-transfers.ensures {u = tt} in
    let both = reads-on old between c.transfers_of_domains.new.self links.0 transfers.0 in
    asked-finds c.with_rows.result _ _ old c.transfers_of_domains.new.self c.with_rows.new.store both c.with_rows.ensures (λ more e is.
    let own = c.as_slice.ensures ∙ links.1 (transfers.0.clean e) in
    let last = c.as_slice-2.ensures ∙ transfers.1 e ∙ ap (λ (xs : Content). filter (transfer_of_domains c.args.ends.0 c.args.ends.1) xs.transfers) (links.0.content (transfers.0.clean e)) in
    (λ i. with_rows (sym (both.content e) i) (sym own i) (sym last i) c.args.all c.args.page) ∙ is)
