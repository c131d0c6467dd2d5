use Rattle.std.proofs.Common.{sym, subst}
use Rattle.sqldomains.proofs.{Words.{AreDuesSet, AreLinksPutOver, asked-turns, reads-same}, LinkRowLemmas.dues-set}
use Rattle.sqldomains.specs.declared.comparison.LinkComparison.{LinkComparison}
use Rattle.sqldomains.specs.declared.comparison.LinkComparison.TheVariants as comparisons
use Rattle.sqldomains.proofs.link_rows.put_over.Goals as goal

pub returns-in-Misdated : goal.returns-in-Misdated
returns-in-Misdated g c =
    let id = c.args.domain.now.id in
    let due = c.args.domain.now.due in
    let links = c.args.links.now in
    let old = c.args.store.now in
    let new = c.set_due.new.store in
    asked-turns c.set_due.result (AreDuesSet id due) (AreLinksPutOver id due links c.args.there) old old new (reads-same old) c.set_due.ensures
    (λ clean set. subst (λ (s : LinkComparison). AreLinksPutOver id due links s old.content new.content) (sym c.in-Misdated.is) (subst (AreLinksPutOver id due links comparisons.Misdated old.content) (sym set) (dues-set id due links old.content)))
