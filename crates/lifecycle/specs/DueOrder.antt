-- The order of what is due is a total one.
use Rattle.std.specs.Cmp.{IsEquivalence, IsTotalOrder, eq_by_cmp_equiv, nat_cmp_total, on_total, then_total}
use Rattle.std.specs.Cmp.Lexicographic.{nat_list_cmp_total}
use Rattle.std.specs.Ordering.{eq_by_cmp}
use Rattle.accounts.specs.Lines.{object_rank}
use Rattle.lifecycle.specs.declared.due_object.Due.{Due}
use Rattle.lifecycle.specs.DueObjects.{due_cmp}

pub due_cmp_total : IsTotalOrder due_cmp
due_cmp_total =
    then_total (then_total
    (on_total (λ (d : Due). d.due) nat_cmp_total)
    (on_total (λ (d : Due). object_rank d.kind) nat_cmp_total))
    (on_total (λ (d : Due). d.name) nat_list_cmp_total)

pub due_eq_equiv : IsEquivalence (eq_by_cmp due_cmp)
due_eq_equiv = eq_by_cmp_equiv due_cmp_total
