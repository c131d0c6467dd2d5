use Rattle.std.proofs.{Common.{◌+◌, List, drop, subst}, Math.ListN.drop_of_length-le}
use Rattle.oldrows.specs.inner.Copies.{IsToPut}
use Rattle.oldrows.proofs.CopyLemmas.{all-put, drop-there, put-more}
use Rattle.oldrows.proofs.copying.put_all.Goals as goal

pub loop-row-preserved : goal.loop-row-preserved
loop-row-preserved g c =
    let rows = c.args.rows.now in
    put-more g.R.Copied.table rows (drop (c.loop-row.row-index + 1) rows) c.row-item.result c.args.to.now c.loop-row.to c.put.new.store
    (subst (λ (rest : List _). IsToPut g.R.Copied.table rows rest c.args.to.now c.loop-row.to) (drop-there rows c.loop-row.row-index c.row-item.result c.loop-row-test.true c.row-item.is) c.loop-row.invariant)
    (c.in_ok-put.ensures {u = tt})

pub returns : goal.returns
returns g c =
    let rows = c.args.rows.now in
    all-put g.R.Copied.table rows c.args.to.now c.loop-row.to
    (subst (λ (rest : List _). IsToPut g.R.Copied.table rows rest c.args.to.now c.loop-row.to) (drop_of_length-le rows c.loop-row-test.false) c.loop-row.invariant)
