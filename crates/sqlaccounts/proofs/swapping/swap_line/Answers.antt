use Rattle.sqlaccounts.proofs.{Words.{add, in_order, taken, with_lines}, PostingLemmas.{posts-then, row-posted}}
use Rattle.sqlaccounts.proofs.swapping.swap_line.Goals as goal

pub add_line-requires : goal.add_line-requires
add_line-requires g c =
    let taken_out = c.in_ok-row.ensures {u = tt} c.args.days.now in
    record {
      begun = taken_out.opened;
      there = λ clean. row-posted c.args.days.now c.args.registrar (with_lines (taken in_order c.args.swap.from)) c.args.row c.in_ok-row.row c.args.store.now.content c.take_line.new.store.content (c.requires.there (taken_out.clean clean)) (taken_out.content clean);
    }

pub returns : goal.returns
returns g c =
    posts-then c.add_line.result c.args.days.now c.args.registrar (with_lines (taken in_order c.args.swap.from)) (with_lines (add in_order c.args.swap.to)) c.args.row c.in_ok-row.row c.args.store.now c.take_line.new.store c.add_line.new.store
    (c.in_ok-row.ensures {u = tt} c.args.days.now) c.add_line.ensures
