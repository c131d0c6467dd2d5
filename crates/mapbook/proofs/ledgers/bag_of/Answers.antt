use Rattle.std.proofs.{Common.{◌≡◌, ◌∙◌, ◌∷◌, ◌++◌, ◌+◌, [], ap, sym, take}, lemmas.List.take_more}
use Rattle.mapbook.proofs.Words.{add, in_order, Line}
use Rattle.accounts.proofs.LineLaws.{lines_in_order}
use Rattle.basis.specs.Bag.{bag_of}
use Rattle.basis.proofs.BagLaws.{bag_of-push}
use Rattle.mapbook.proofs.ledgers.bag_of.Goals as goal

pub loop-line-init : goal.loop-line-init
unfolding bag_of
loop-line-init c = c.new-bag.ensures

pub loop-line-preserved : goal.loop-line-preserved
loop-line-preserved c =
    let ls = c.args.lines.now in
    let i = c.loop-line.line-index in
    let x = c.line-item.result in
    let front : take (i + 1) ls ≡ take i ls ++ x ∷ [] = take_more ls i x c.loop-line-test.true ∙ ap (λ (y : Line). take i ls ++ y ∷ []) (sym c.line-item.is) in
    c.in_ok-add.ensures.ok ∙ ap (add in_order x) c.loop-line.invariant ∙ sym (bag_of-push in_order lines_in_order (take i ls) x) ∙ ap (bag_of in_order) (sym front)
