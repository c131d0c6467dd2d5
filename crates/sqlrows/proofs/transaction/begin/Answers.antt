use Rattle.std.proofs.Common.{Ok, Err}
use Rattle.sqlrows.proofs.{Words.{MatchResult-from_err, state}, TransactionLemmas.{began, begin_leaves}}
use Rattle.sqlrows.proofs.transaction.begin.Goals as goal

pub returns-in_err-execute-clause-does : goal.returns-in_err-execute-clause-does
returns-in_err-execute-clause-does g c mode clean = MatchResult-from_err _ _ _ c.from_residual.ensures.0 (λ _. began (state g.S.Store c.args.conn.now) (state g.S.Store c.execute.new.self) (Err c.in_err-execute.field-0.0) mode (c.in_err-execute.ensures.runs clean))

pub returns-in_err-execute-clause-crash : goal.returns-in_err-execute-clause-crash
returns-in_err-execute-clause-crash g c = begin_leaves (state g.S.Store c.args.conn.now) (state g.S.Store c.execute.new.self) c.execute.ensures.survives

pub returns-clause-does : goal.returns-clause-does
returns-clause-does g c mode clean = began (state g.S.Store c.args.conn.now) (state g.S.Store c.execute.new.self) (Ok _) mode (c.in_ok-execute.ensures.runs clean)

pub returns-clause-crash : goal.returns-clause-crash
returns-clause-crash g c = begin_leaves (state g.S.Store c.args.conn.now) (state g.S.Store c.execute.new.self) c.execute.ensures.survives
