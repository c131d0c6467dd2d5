use Rattle.std.proofs.Common.{List, ap, ◌∙◌}
use Rattle.mapbook.proofs.{Words.{AccountEdit, all_edited, Line}, EditLemmas.if-ok, PostingLemmas.swaps-made}
use Rattle.mapbook.proofs.posting.lines_changed.Goals as goal

pub returns : goal.returns
returns g c =
    let a = c.args.account.now in
    if-ok c.each_swapped.result
    (λ edits is. ap (λ (es : List AccountEdit). all_edited es a) is ∙ swaps-made c.in_ok-swaps.swaps.items a ∙ ap (λ (ls : List Line). record a { lines = ls }) c.in_ok-swaps.ensures)
    c.each_swapped.ensures
