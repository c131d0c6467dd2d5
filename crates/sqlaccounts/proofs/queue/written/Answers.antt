use Rattle.std.proofs.Common.{FitsSigned, rules, pos, w64, to_z-of_z, sym, ap, ◌∙◌}
use Rattle.sqlcolumns.specs.Messages.{row_of_message}
use Rattle.sqlaccounts.proofs.ColumnLemmas.{written_row}
use Rattle.sqlaccounts.proofs.queue.written.Goals as goal

pub returns : goal.returns
returns c =
    let fits : FitsSigned w64 c.registrar_column.result = search rules in
    written_row (pos 0) (pos c.args.registrar) c.args.message.now c.in_ok-or_fault.field-0 c.secs-secs.ensures.range
    (sym (ap (λ id. row_of_message (pos 0) id c.args.message.now) (to_z-of_z fits ∙ c.registrar_column.ensures)) ∙ sym (c.in_ok-message_row.ensures {u = tt}) ∙ c.in_ok-or_fault.ensures {u = tt})
