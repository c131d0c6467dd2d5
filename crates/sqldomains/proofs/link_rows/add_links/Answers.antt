use Rattle.std.proofs.Common.{subst}
use Rattle.sqldomains.proofs.{Words.{AreLinksPutOver, AreNamesAdded, Content, HasChanged, then-became}, LinkRowLemmas.links-added}
use Rattle.sqlcolumns.specs.declared.code.Role.TheVariants as roles
use Rattle.sqldomains.specs.declared.comparison.LinkComparison.TheVariants as comparisons
use Rattle.sqldomains.proofs.link_rows.add_links.Goals as goal

pub returns : goal.returns
returns g c =
    let id = c.args.domain.now.id in
    let due = c.args.domain.now.due in
    let links = c.args.links.now in
    let old = c.args.store.now in
    let first = c.add_names.new.store in
    let second = c.add_names-2.new.store in
    let new = c.add_names-3.new.store in
    let admin = subst (λ names. HasChanged (AreNamesAdded id due roles.Admin names) old first) c.as_slice.ensures (c.in_ok-add_names.ensures {u = tt}) in
    let tech = subst (λ names. HasChanged (AreNamesAdded id due roles.Tech names) first second) c.as_slice-2.ensures (c.in_ok-add_names-2.ensures {u = tt}) in
    let host = subst (λ names. HasChanged (AreNamesAdded id due roles.Host names) second new) c.as_slice-3.ensures (c.in_ok-add_names-3.ensures {u = tt}) in
    let rest : Content → Content → Type 0 = λ m e. (k : Content) × AreNamesAdded id due roles.Tech links.tech m k × AreNamesAdded id due roles.Host links.hosts k e in
    then-became (AreNamesAdded id due roles.Admin links.admin) rest (AreLinksPutOver id due links comparisons.Absent) old first new admin
    (then-became (AreNamesAdded id due roles.Tech links.tech) (AreNamesAdded id due roles.Host links.hosts) rest first second new tech host (λ clean t h. (second.content, t, h)))
    (λ clean a more. links-added id due links old.content first.content more.0 new.content a more.1 more.2)
