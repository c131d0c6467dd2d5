use Rattle.std.proofs.Common.{[], ◌∷◌}
use Rattle.sqldomains.proofs.{Words.{AreNamesAdded, links, links_to, then-made}, LinkRowLemmas.name-added}
use Rattle.sqlrows.specs.inner.Layouts.{appended}
use Rattle.sqldomains.proofs.link_rows.add_name.Goals as goal

pub returns : goal.returns
returns g c =
    let id = c.args.domain.now.id in
    let due = c.args.domain.now.due in
    let name = c.args.name.now in
    let row = c.in_ok-row.row in
    let asked = c.in_ok-row.ensures in
    then-made (links_to (appended links (λ k. record row { id = k }))) (AreNamesAdded id due c.args.role (name ∷ [])) c.args.store.now c.row_to.new.store c.append_link.new.self
    asked.0 (c.in_ok-append_link.ensures {u = tt}) (λ clean. name-added id due c.args.role name c.args.store.now.content row (asked.1 clean))
