use Rattle.std.proofs.Common.{inr}
use Rattle.sqltables.proofs.{Words.{bound, IsRight}, AnswerLemmas.{all-put, right-as}}
use Rattle.sqltables.proofs.answers.Answers.keep.Goals as goal

pub returns-in-Ok-clause-right : goal.returns-in-Ok-clause-right
returns-in-Ok-clause-right c db right answered =
    let made = c.in-Ok.ensures {u = tt} in
    all-put (IsRight db) c.in-Ok.answer c.args.self.now c.add.new.self c.add.ensures
    (right-as db c.in-Ok.answer c.args.tree c.args.sql.now (bound c.args.params.now) c.args.rows.items made.of made.tree made.rows answered c.requires) right

pub returns-in-Ok-clause-kept : goal.returns-in-Ok-clause-kept
returns-in-Ok-clause-kept c = inr (c.in-Ok.answer, c.add.ensures)
