use Rattle.std.proofs.Common.{inr}
use Rattle.rdap.proofs.HeadLemmas.{none_in_bad, none_in_cut}
use Rattle.rdap.proofs.answering.answer.Goals as goal

pub returns-in_ok-answer_without_object-in-Cut-clause-answer : goal.returns-in_ok-answer_without_object-in-Cut-clause-answer
returns-in_ok-answer_without_object-in-Cut-clause-answer g c faces shown = inr (none_in_cut c.args.head.now c.in-Cut.ensures, c.in_ok-answer_without_object-in-Cut.ensures)

pub returns-in_ok-answer_without_object-in-Bad-clause-answer : goal.returns-in_ok-answer_without_object-in-Bad-clause-answer
returns-in_ok-answer_without_object-in-Bad-clause-answer g c faces shown = inr (none_in_bad c.args.head.now c.in-Bad.ensures, c.in_ok-answer_without_object-in-Bad.ensures)
