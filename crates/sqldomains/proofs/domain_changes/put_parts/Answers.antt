use Rattle.std.proofs.Common.{◌≡◌, true, [], filter, ap, subst, ◌∙◌}
use Rattle.sqldomains.proofs.Words.{AreLinksPut, ArePartsPut, Content, HasChanged, HasNoParts, is_transfer_of, IsTransferPut, link_with_domain}
use Rattle.sqldomains.proofs.Words.{then-became, transfer_with_domain}
use Rattle.sqlobjects.specs.declared.transfers.Transferable.{Transferable}
use Rattle.sqlobjects.specs.declared.transfers.Transferable.TheVariants as transferable
use Rattle.sqldomains.proofs.domain_changes.put_parts.Goals as goal

pub returns : goal.returns
returns g c =
    let old = c.args.store.now in
    let middle = c.put_links.new.store in
    let new = c.put_last_transfer.new.store in
    let d = c.args.domain.now in
    let row = c.args.row.now in
    let is_new = c.args.is_new in
    let put : (it : Transferable) → Content → Content → Type 0 = λ it m e. (is_new ≡ true → filter (is_transfer_of it) m.transfers ≡ []) → IsTransferPut it d.transfer m e in
    then-became (λ m e. (is_new ≡ true → filter (link_with_domain row.id) m.links ≡ []) → AreLinksPut row.id row.due d.links m e)
    (put (transferable.Domain row.id))
    (λ m e. (is_new ≡ true → HasNoParts row.id m) → ArePartsPut row.id row.due d m e) old middle new
    (c.in_ok-put_links.ensures {u = tt}) (subst (λ (it : Transferable). HasChanged (put it) middle new) c.of_domain.ensures (c.in_ok-put_last_transfer.ensures {u = tt}))
    (λ clean links transfer none.
    let linked = links (λ e. (none e).links) in
    record {
      between = middle.content;
      links = linked;
      transfer = transfer (λ e. ap (λ (x : Content). filter (transfer_with_domain row.id) x.transfers) linked.others.rest ∙ (none e).transfers);
    })
