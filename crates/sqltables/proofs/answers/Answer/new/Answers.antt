use Rattle.std.proofs.Common.{◌∙◌}
use Rattle.sqltables.proofs.AnswerLemmas.{same_bound}
use Rattle.sqltables.proofs.answers.Answer.new.Goals as goal

pub returns-clause-of : goal.returns-clause-of
returns-clause-of c = (c.in_ok-sql.ensures.items ∙ c.as_bytes.ensures.value, same_bound c.in_ok-params.params c.args.params.now c.in_ok-params.ensures)
