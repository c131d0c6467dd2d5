use Rattle.std.proofs.Common.{◌≡◌, Bool, cond, sym, subst}
use Rattle.mapbook.proofs.{Words.{all_edited, at_begin, changed, content_of, Makes, plain_records, Stored}, PostingLemmas.edits-made}
use Rattle.books.specs.Ledgers.{changed_if_there}
use Rattle.mapbook.proofs.plain.Plain.change.Goals as goal

pub returns : goal.returns
returns c =
    let b = c.args.self.now in
    let r = c.args.registrar in
    let edits = c.in_ok-edits.edits.items in
    let f = changed c.args.policy.now c.args.what in
    let same = subst (λ (o : Bool). let s : Stored = cond o (content_of b.content) (at_begin b) in changed_if_there (all_edited edits) s.registry.accounts r ≡ changed_if_there f s.registry.accounts r)
    (sym c.requires) c.in_ok-edits.ensures in
    subst (λ (held : Stored). Makes c.edit_each.result held (plain_records b) (plain_records c.edit_each.new.self)) (edits-made r f edits (plain_records b).content same) c.edit_each.ensures
