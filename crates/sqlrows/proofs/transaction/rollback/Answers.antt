use Rattle.std.proofs.Common.{Ok, Err, inl, sym, not, true, false, Bool, ◌≡◌, ◌∙◌, refl}
use Rattle.sqlite.specs.Held.{state}
use Rattle.sqlrows.proofs.TransactionLemmas.{went_back, back_leaves}
use Rattle.sqlrows.proofs.transaction.rollback.Goals as goal

was_inside : (b : Bool) → not b ≡ false → b ≡ true
was_inside true h = refl
was_inside false h = sym h

pub returns-in_err-execute-clause-does : goal.returns-in_err-execute-clause-does
returns-in_err-execute-clause-does g c clean =
    let inside = was_inside _ (sym c.is_autocommit.ensures.value ∙ c.if-is_autocommit.false) in
    inl (went_back (state g.S.Store c.args.conn.now) (state g.S.Store c.execute.new.self) (Err c.in_err-execute.field-0.0) inside (c.in_err-execute.ensures.runs clean))

pub returns-in_err-execute-clause-crash : goal.returns-in_err-execute-clause-crash
returns-in_err-execute-clause-crash g c = back_leaves (state g.S.Store c.args.conn.now) (state g.S.Store c.execute.new.self) c.execute.ensures.survives

pub returns-clause-does : goal.returns-clause-does
returns-clause-does g c clean =
    let inside = was_inside _ (sym c.is_autocommit.ensures.value ∙ c.if-is_autocommit.false) in
    inl (went_back (state g.S.Store c.args.conn.now) (state g.S.Store c.execute.new.self) (Ok _) inside (c.in_ok-execute.ensures.runs clean))

pub returns-clause-crash : goal.returns-clause-crash
returns-clause-crash g c = back_leaves (state g.S.Store c.args.conn.now) (state g.S.Store c.execute.new.self) c.execute.ensures.survives
