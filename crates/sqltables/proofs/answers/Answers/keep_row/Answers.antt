use Rattle.std.proofs.Common.{sym, subst}
use Rattle.sqltables.proofs.Words.{bound, IsAnsweredByRows}
use Rattle.sqltables.proofs.answers.Answers.keep_row.Goals as goal

pub returns-in-Ok : goal.returns-in-Ok
returns-in-Ok c db right answered = c.keep.ensures.right db right (subst (IsAnsweredByRows db c.args.sql.now (bound c.args.params.now)) (sym (c.in-Ok.ensures {u = tt})) answered)
