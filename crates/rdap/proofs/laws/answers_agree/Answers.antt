use Rattle.rdap.proofs.AnswerLemmas.{one_answer}
use Rattle.rdap.proofs.laws.answers_agree.Goals as goal

pub returns : goal.returns
returns c = one_answer
