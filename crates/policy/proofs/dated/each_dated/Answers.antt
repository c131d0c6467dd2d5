use Rattle.std.proofs.{Common.{◌+◌, map, drop}, lemmas.{Result.err_from_is_err_and, List.drop_all}}
use Rattle.toml.specs.View.{view}
use Rattle.policy.specs.{Rules.AreDays, declared.schedule.DatedDays.DatedDays}
use Rattle.policy.proofs.{DatedLemmas.{all-more, each-cons, each-fails, each-nil}, TextLemmas.entries_left}
use Rattle.policy.proofs.dated.each_dated.Goals as goal

pub returns-in_err-dated_in-clause-read : goal.returns-in_err-dated_in-clause-read
returns-in_err-dated_in-clause-read c =
    let p = err_from_is_err_and c.from_residual.result c.from_residual.ensures.1 in
    let left = entries_left c.args.tables.now c.loop-table.table-index c.table-item.result c.loop-table-test.true c.table-item.is in
    rw (p.1, p.2) (each-fails c.in_err-dated_in.field-0.0 (view c.table-item.result) (map view (drop (c.loop-table.table-index + 1) c.args.tables.now)) c.loop-table.dated.items _ c.in_err-dated_in.ensures.read (rw left at c.loop-table.invariant.0))

pub loop-table-preserved : goal.loop-table-preserved
loop-table-preserved c =
    let left = entries_left c.args.tables.now c.loop-table.table-index c.table-item.result c.loop-table-test.true c.table-item.is in (
      rw c.in_ok-push.ensures.items (each-cons (view c.table-item.result) (map view (drop (c.loop-table.table-index + 1) c.args.tables.now)) c.in_ok-dated_in.field-0 c.loop-table.dated.items _ c.in_ok-dated_in.ensures.read (rw left at c.loop-table.invariant.0)),
      rw c.in_ok-push.ensures.items (all-more (λ (t : DatedDays). AreDays t.days) c.loop-table.dated.items c.in_ok-dated_in.field-0 c.loop-table.invariant.1 c.in_ok-dated_in.ensures.range),
    )

pub returns-clause-read : goal.returns-clause-read
returns-clause-read c =
    let none = drop_all c.loop-table.table-index c.args.tables.now c.loop-table-test.false in
    each-nil c.loop-table.dated.items _ (rw none at c.loop-table.invariant.0)
