use Rattle.std.proofs.Common.{rules, sym, ◌∙◌}
use Rattle.sqlcolumns.proofs.MessageLemmas.{message_back, message_written}
use Rattle.sqlcolumns.proofs.message.message_of_row.Goals as goal

pub returns-clause-value : goal.returns-clause-value
returns-clause-value c = search rules

pub returns-clause-found : goal.returns-clause-found
returns-clause-found c = message_written c.args.row _ (sym (returns-clause-value c))

pub returns-clause-only : goal.returns-clause-only
returns-clause-only c = λ m is e. returns-clause-value c ∙ message_back _ _ m c.args.row is e

pub returns-in_err-subject-clause-value : goal.returns-in_err-subject-clause-value
returns-in_err-subject-clause-value c = search rules

pub returns-in_err-subject-clause-only : goal.returns-in_err-subject-clause-only
returns-in_err-subject-clause-only c = λ m is e. returns-in_err-subject-clause-value c ∙ message_back _ _ m c.args.row is e
