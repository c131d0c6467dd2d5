use Rattle.std.proofs.{Common.{Err, Ok}, lemmas.Result.IfOk-from_err}
use Rattle.sqlrows.proofs.StandLemmas.{on_err_always, stands_if_not_executed, commits_later, stays_if_executed}
use Rattle.sqlrows.proofs.SoundLemmas.{executed_open, steady}
use Rattle.sqlrows.proofs.record.write.Goals as goal

pub returns-in_err-execute-clause-does : goal.returns-in_err-execute-clause-does
returns-in_err-execute-clause-does g c writes inside = record {
  ran = λ clean. IfOk-from_err _ _ c.from_residual.ensures.0;
  stays = λ clean. IfOk-from_err _ _ c.from_residual.ensures.0;
  err = λ clean. on_err_always _ (stands_if_not_executed _ _ _ _ _ (c.in_err-execute.ensures.runs clean));
  crash = commits_later _ _ _ _ writes inside c.execute.ensures.survives;
}

pub returns-clause-does : goal.returns-clause-does
returns-clause-does g c writes inside = record {
  ran = λ clean. (_, c.in_ok-execute.ensures.runs clean);
  stays = λ clean. stays_if_executed _ _ _ _ _ writes inside (c.in_ok-execute.ensures.runs clean);
  err = λ clean. tt;
  crash = commits_later _ _ _ _ writes inside c.execute.ensures.survives;
}

pub returns-in_err-execute-clause-steady : goal.returns-in_err-execute-clause-steady
returns-in_err-execute-clause-steady g c = steady _ _ _ c.execute.ensures.survives

pub returns-clause-steady : goal.returns-clause-steady
returns-clause-steady g c = steady _ _ _ c.execute.ensures.survives

pub returns-in_err-execute-clause-opened : goal.returns-in_err-execute-clause-opened
returns-in_err-execute-clause-opened g c clean opened = executed_open _ _ _ _ (Err c.in_err-execute.field-0.0) (c.in_err-execute.ensures.runs clean) opened

pub returns-clause-opened : goal.returns-clause-opened
returns-clause-opened g c clean opened = executed_open _ _ _ _ (Ok _) (c.in_ok-execute.ensures.runs clean) opened
