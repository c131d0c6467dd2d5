use Rattle.std.proofs.Common.{rules, refl, sym, ap, ℤ, pos, ◌∙◌, FitsSigned, to_z-of_z, w64}
use Rattle.sqlcolumns.specs.inner.Lines.{row_of_line}
use Rattle.sqlaccounts.proofs.LineLemmas.{written_line}
use Rattle.sqlaccounts.proofs.line.written.Goals as goal

pub returns : goal.returns
returns c =
    let fits : FitsSigned w64 c.registrar_column.result = search rules in
    written_line (pos 0) c.args.registrar c.args.line.now c.args.ends c.in_ok-or_fault.field-0 ((c.if-not-is_line.ensures {u = tt}).0 refl)
    (sym (ap (λ (a : ℤ). row_of_line (pos 0) a c.args.line.now c.args.ends) (to_z-of_z fits ∙ c.registrar_column.ensures)) ∙ sym c.line_row.ensures ∙ c.in_ok-or_fault.ensures {u = tt})
