use Rattle.std.proofs.Common.{◌+◌, arith}
use Rattle.sqlrows.proofs.{Words.{IfOk-from_err, state, survives_then}, StandLemmas.on_err_always}
use Rattle.sqlrows.proofs.DefineLemmas.{stays_then, stands_then, leaves_no_more, text_at, texts_from, leads_next, writes_next, leads_on}
use Rattle.sqlrows.proofs.definition.define.Goals as goal

pub returns-in_err-write-clause-does : goal.returns-in_err-write-clause-does
returns-in_err-write-clause-does g c from to all blank is_open inside clean =
    let old = state g.S.Store c.args.conn.now in
    let mid = state g.S.Store c.texts.conn in
    let new = state g.S.Store c.write.new.conn in
    let at = c.texts.invariant.2 from to all blank is_open inside (omega (arith, c.write.ensures.steady.clean, clean)) in
    let texts = c.args.texts.now in
    let i = c.texts.text-index in
    let leads = leads_next mid to texts i c.texts-test.true at.0 in
    let it = c.in_err-write.ensures.does (writes_next mid new (text_at texts i) (texts_from texts (i + 1)) to leads) at.1.shown.mode in
    record {
      made = IfOk-from_err _ _ c.from_residual.ensures.0;
      err = on_err_always _ (stands_then old mid new at.1 (it.err clean));
      crash = leaves_no_more old mid new at.2 it.crash clean;
    }

pub texts-preserved : goal.texts-preserved
texts-preserved g c = (
  survives_then (state g.S.Store c.args.conn.now) (state g.S.Store c.texts.conn) (state g.S.Store c.write.new.conn) _ _ _ (λ _ db _. tt) (λ _ db _. tt) c.texts.invariant.0 c.write.ensures.steady,
  (λ clean opened. c.texts.invariant.1 (omega (arith, c.write.ensures.steady.clean, clean)) (c.write.ensures.opened clean opened)),
  λ from to all blank is_open inside clean.
      let old = state g.S.Store c.args.conn.now in
      let mid = state g.S.Store c.texts.conn in
      let new = state g.S.Store c.write.new.conn in
      let at = c.texts.invariant.2 from to all blank is_open inside (omega (arith, c.write.ensures.steady.clean, clean)) in
      let texts = c.args.texts.now in
      let i = c.texts.text-index in
      let leads = leads_next mid to texts i c.texts-test.true at.0 in
      let it = c.in_ok-write.ensures.does (writes_next mid new (text_at texts i) (texts_from texts (i + 1)) to leads) at.1.shown.mode in
      let ran = it.ran clean in
      (leads_on mid new (text_at texts i) (texts_from texts (i + 1)) to leads ran.0 ran.1, stays_then old mid new at.1 (it.stays clean), leaves_no_more old mid new at.2 it.crash clean),
)

pub returns-in_err-write-clause-opened : goal.returns-in_err-write-clause-opened
returns-in_err-write-clause-opened g c clean opened = c.texts.invariant.1 (omega (arith, c.write.ensures.steady.clean, clean)) (c.write.ensures.opened clean opened)
