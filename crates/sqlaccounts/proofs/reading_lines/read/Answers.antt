use Rattle.std.proofs.Common.{◌∙◌, ap, sym, take}
use Rattle.sqlaccounts.proofs.{Words.{add, filter_map, in_order, line_of_columns, take_more}, LinesOnLemmas.read-more}
use Rattle.basis.specs.Bag.{bag_of}
use Rattle.sqlaccounts.proofs.reading_lines.read.Goals as goal

pub loop-row-init : goal.loop-row-init
unfolding bag_of
loop-row-init c = c.new-lines.ensures

pub loop-row-preserved : goal.loop-row-preserved
loop-row-preserved c =
    let rows = c.args.rows.now in
    let i = c.loop-row.row-index in
    let reads = sym c.line_of_row.ensures.value ∙ c.in-Some.is in
    c.in_ok-add.ensures.ok ∙ ap (add in_order c.in-Some.line) c.loop-row.invariant ∙ sym (read-more (take i rows) _ c.in-Some.line reads) ∙ ap (λ rs. bag_of in_order (filter_map line_of_columns rs)) (sym (take_more rows i _ c.loop-row-test.true))
