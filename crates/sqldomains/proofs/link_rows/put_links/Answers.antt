use Rattle.std.proofs.Common.{◌≡◌, true, [], filter, subst}
use Rattle.sqldomains.proofs.Words.{AreLinksPut, AreLinksPutOver, asked-turns, in_places, link_with_domain}
use Rattle.sqldomains.proofs.link_rows.put_links.Goals as goal

pub returns : goal.returns
returns g c =
    let id = c.args.domain.now.id in
    let due = c.args.domain.now.due in
    let links = c.args.links.now in
    let is_new = c.args.is_new in
    let so : in_places links.hosts ≡ links.hosts = subst (λ names. in_places names ≡ names) c.as_slice.ensures (c.in_ok-check_places.ensures {u = tt}) in
    let there = c.in_ok-there.there in
    let asked = c.in_ok-there.ensures in
    asked-turns c.put_over.result (AreLinksPutOver id due links there) (λ m e. (is_new ≡ true → filter (link_with_domain id) m.links ≡ []) → AreLinksPut id due links m e) c.args.store.now c.compare_or_absent.new.store c.put_over.new.store asked.0 c.put_over.ensures
    (λ clean step none. step so (asked.1 clean none))
