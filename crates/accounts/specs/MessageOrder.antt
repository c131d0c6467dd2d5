-- The order of messages is a total one.
use Rattle.std.specs.Cmp.{IsEquivalence, IsTotalOrder, eq_by_cmp_equiv, nat_cmp_total, on_total, then_total}
use Rattle.std.specs.Cmp.Lexicographic.{nat_list_cmp_total}
use Rattle.std.specs.Ordering.{eq_by_cmp}
use Rattle.accounts.specs.declared.message.Message.{Message}
use Rattle.accounts.specs.Messages.{class_of, message_cmp, number_of, subject_rank, tie_of}

pub message_cmp_total : IsTotalOrder message_cmp
message_cmp_total =
    then_total (then_total (then_total (then_total (then_total
    (on_total (λ (m : Message). m.moment) nat_cmp_total)
    (on_total (λ (m : Message). class_of m.origin) nat_cmp_total))
    (on_total (λ (m : Message). number_of m.origin) nat_cmp_total))
    (on_total (λ (m : Message). m.name) nat_list_cmp_total))
    (on_total (λ (m : Message). subject_rank m.subject) nat_cmp_total))
    (on_total (λ (m : Message). tie_of m.origin) nat_cmp_total)

pub message_eq_equiv : IsEquivalence (eq_by_cmp message_cmp)
message_eq_equiv = eq_by_cmp_equiv message_cmp_total
