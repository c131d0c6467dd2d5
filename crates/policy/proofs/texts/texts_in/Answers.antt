use Rattle.std.proofs.{Common.{◌+◌, ℕ, List, map, drop, arith}, lemmas.{Result.err_from_is_err_and, List.{drop_all, length-append}}}
use Rattle.toml.specs.View.{view}
use Rattle.policy.proofs.TextLemmas.{entries_left, texts_in-cons, texts_in-nil, texts_in-fails}
use Rattle.policy.proofs.texts.texts_in.Goals as goal

pub returns-in_err-text-clause-read : goal.returns-in_err-text-clause-read
returns-in_err-text-clause-read c =
    let p = err_from_is_err_and c.from_residual.result c.from_residual.ensures.1 in
    let left = entries_left c.args.entries.now c.loop-entry.entry-index c.entry-item.result c.loop-entry-test.true c.entry-item.is in
    rw (p.1, p.2) (texts_in-fails c.in_err-text.field-0.0 c.args.key (view c.entry-item.result) (map view (drop (c.loop-entry.entry-index + 1) c.args.entries.now)) c.loop-entry.texts.items _ (rw c.text_in.ensures at c.in_err-text.ensures.read) (rw left at c.loop-entry.invariant.0))

pub loop-entry-preserved : goal.loop-entry-preserved
loop-entry-preserved c =
    let left = entries_left c.args.entries.now c.loop-entry.entry-index c.entry-item.result c.loop-entry-test.true c.entry-item.is in
    (rw c.in_ok-push.ensures.items (texts_in-cons c.args.key (view c.entry-item.result) (map view (drop (c.loop-entry.entry-index + 1) c.args.entries.now)) c.in_ok-text.text c.loop-entry.texts.items _ (rw c.text_in.ensures at c.in_ok-text.ensures.read) (rw left at c.loop-entry.invariant.0)), rw c.in_ok-push.ensures.items (omega (arith, length-append {A = List ℕ}, c.loop-entry.invariant.1)))

pub returns-clause-read : goal.returns-clause-read
returns-clause-read c =
    let none = drop_all c.loop-entry.entry-index c.args.entries.now c.loop-entry-test.false in
    texts_in-nil c.args.key c.loop-entry.texts.items _ (rw none at c.loop-entry.invariant.0)
