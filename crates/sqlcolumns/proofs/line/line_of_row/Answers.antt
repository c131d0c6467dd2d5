use Rattle.std.proofs.Common.{rules, sym, ◌∙◌}
use Rattle.sqlcolumns.proofs.LineLemmas.{line_back, line_written}
use Rattle.sqlcolumns.proofs.line.line_of_row.Goals as goal

pub returns-clause-value : goal.returns-clause-value
returns-clause-value c = search rules

pub returns-clause-found : goal.returns-clause-found
returns-clause-found c = line_written c.args.row.now _ (sym (returns-clause-value c))

pub returns-clause-only : goal.returns-clause-only
returns-clause-only c = λ line is e. returns-clause-value c ∙ line_back _ _ line _ c.args.row.now is e
