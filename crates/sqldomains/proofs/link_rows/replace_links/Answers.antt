use Rattle.sqldomains.proofs.Words.{AreLinksCleared, AreLinksPutOver, delete_where, link_with_domain, links_to, made, then-became}
use Rattle.sqldomains.proofs.LinkRowLemmas.{links-cleared, links-replaced}
use Rattle.sqldomains.specs.declared.comparison.LinkComparison.TheVariants as comparisons
use Rattle.sqldomains.proofs.link_rows.replace_links.Goals as goal

pub returns : goal.returns
returns g c =
    let id = c.args.domain.now.id in
    let due = c.args.domain.now.due in
    let links = c.args.links.now in
    let old = c.args.store.now in
    let cleared = c.remove_links_by_domain.new.self in
    let new = c.add_links.new.store in
    let number = c.number_of.result in
    then-became (AreLinksCleared number) (AreLinksPutOver id due links comparisons.Absent) (AreLinksPutOver id due links comparisons.Different) old cleared new
    (made (AreLinksCleared number) (links_to (delete_where (link_with_domain number))) old cleared (c.in_ok-remove_links_by_domain.ensures {u = tt}) (links-cleared number old.content)) (c.in_ok-add_links.ensures {u = tt})
    (λ clean clear added. links-replaced id due number links old.content cleared.content new.content c.number_of.ensures clear added)
