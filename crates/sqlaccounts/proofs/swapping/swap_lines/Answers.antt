use Rattle.sqlaccounts.proofs.{Words.{swapped_all, with_lines}, LineLemmas.swaps-posted, PostingLemmas.posts-behind}
use Rattle.sqlaccounts.proofs.swapping.swap_lines.Goals as goal

pub returns : goal.returns
returns g c =
    let asked = c.in_ok-swaps.ensures in
    let swaps = c.in_ok-swaps.swaps in
    posts-behind c.swap_all.result c.args.days.now c.args.registrar (with_lines (swapped_all swaps)) _ c.args.row c.args.store.now c.swaps.new.store c.swap_all.new.store asked.0
    (λ clean changed ys it. swaps-posted c.args.days.now c.args.registrar c.args.row c.args.store.now.content (c.requires.there (asked.0.clean clean)) (g.C.LineChange.changed c.args.change.now) swaps changed ys (asked.1 clean) it)
    c.swap_all.ensures
