use Rattle.std.proofs.{Common.{◌+◌, sym, ◌∙◌, drop}, lemmas.List.drop_all}
use Rattle.policy.proofs.TextLemmas.{texts_left, first_twice-here, first_twice-later, first_twice-none, all_after}
use Rattle.policy.proofs.registrar.first_twice.Goals as goal

pub returns-then-is_among : goal.returns-then-is_among
returns-then-is_among c =
    let left = texts_left c.args.ids.now c.loop-i.i c.index-ids-i.result c.loop-i-test.true c.index-ids-i.is in
    let here = first_twice-here c.index-ids-i.result c.as_str.result.now _ (drop (c.loop-i.i + 1) c.args.ids.now) c.is_among.result c.is_among.ensures c.as_str.ensures (all_after c.args.ids.now (c.loop-i.i + 1)) c.if-is_among.true in
    sym here ∙ (rw left at c.loop-i.invariant)

pub loop-i-preserved : goal.loop-i-preserved
loop-i-preserved c =
    let left = texts_left c.args.ids.now c.loop-i.i c.index-ids-i.result c.loop-i-test.true c.index-ids-i.is in
    let later = first_twice-later c.index-ids-i.result c.as_str.result.now _ (drop (c.loop-i.i + 1) c.args.ids.now) c.is_among.result c.is_among.ensures c.as_str.ensures (all_after c.args.ids.now (c.loop-i.i + 1)) c.if-is_among.false in
    sym later ∙ (rw left at c.loop-i.invariant)

pub returns : goal.returns
returns c =
    let none = drop_all c.loop-i.i c.args.ids.now c.loop-i-test.false in
    sym first_twice-none ∙ (rw none at c.loop-i.invariant)
