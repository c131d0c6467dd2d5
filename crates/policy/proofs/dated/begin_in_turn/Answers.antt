use Rattle.std.proofs.{Common.{sym, ap, ◌∙◌, map}, lemmas.List.drop_all}
use Rattle.toml.specs.View.{view}
use Rattle.policy.specs.Reading.{begin_after}
use Rattle.policy.proofs.{DatedLemmas.{begin-early, begin-here, begin-nil, begin-none}, TextLemmas.entries_left}
use Rattle.policy.proofs.dated.begin_in_turn.Goals as goal

pub returns-in_default : goal.returns-in_default
returns-in_default c =
    let left = entries_left c.args.tables.now c.loop-table.table-index c.table-item.result c.loop-table-test.true c.table-item.is in
    sym (c.loop-table.invariant ∙ ap (begin_after c.loop-table.before) left
    ∙ begin-early c.loop-table.before c.in-Some.from (view c.table-item.result) _ (sym c.from_of.ensures ∙ c.in-Some.is) (sym c.is_after.ensures ∙ c.if-is_after.false))

pub returns-in_default-2 : goal.returns-in_default-2
returns-in_default-2 c =
    let left = entries_left c.args.tables.now c.loop-table.table-index c.table-item.result c.loop-table-test.true c.table-item.is in
    sym (c.loop-table.invariant ∙ ap (begin_after c.loop-table.before) left ∙ begin-none c.loop-table.before (view c.table-item.result) _ (sym c.from_of.ensures ∙ c.in_default.is))

pub loop-table-preserved : goal.loop-table-preserved
loop-table-preserved c =
    let left = entries_left c.args.tables.now c.loop-table.table-index c.table-item.result c.loop-table-test.true c.table-item.is in
    c.loop-table.invariant ∙ ap (begin_after c.loop-table.before) left
    ∙ begin-here c.loop-table.before c.in-Some.from (view c.table-item.result) _ (sym c.from_of.ensures ∙ c.in-Some.is) (sym c.is_after.ensures ∙ c.if-is_after.true)

pub returns : goal.returns
returns c =
    let none = drop_all c.loop-table.table-index c.args.tables.now c.loop-table-test.false in
    sym (c.loop-table.invariant ∙ ap (λ ds. begin_after c.loop-table.before (map view ds)) none ∙ begin-nil c.loop-table.before)
