use Rattle.std.proofs.Common.{rules, ◌≡◌, ℕ, ℤ, Option, FitsSigned, w64, of_z, to_z, to_z-of_z, ap, ◌∙◌}
use Rattle.sqlterms.specs.Terms.{count_in, days_made}
use Rattle.sqlterms.proofs.counts.dated_days_of.Goals as goal

read : {o : Option ℕ} (column : ℤ) → FitsSigned w64 column → o ≡ count_in (to_z w64 (of_z w64 column)) → o ≡ count_in column
read column fits is = is ∙ ap count_in (to_z-of_z fits)

pub returns : goal.returns
returns c =
    let r = c.args.row.now in
    c.days_made.ensures
    ∙ (λ i. days_made
    (read r.days_add (search rules) c.count_of_column.ensures i)
    (read r.days_auto_renew (search rules) c.count_of_column-2.ensures i)
    (read r.days_renew (search rules) c.count_of_column-3.ensures i)
    (read r.days_transfer (search rules) c.count_of_column-4.ensures i)
    (read r.days_redemption (search rules) c.count_of_column-5.ensures i)
    (read r.days_restore (search rules) c.count_of_column-6.ensures i)
    (read r.days_pending_delete (search rules) c.count_of_column-7.ensures i)
    (read r.days_answer (search rules) c.count_of_column-8.ensures i)
    (read r.days_lock (search rules) c.count_of_column-9.ensures i))
