use Rattle.std.proofs.Common.{◌≡◌, true}
use Rattle.mapbook.proofs.Words.{Answers, changed, changed_each, plain_records, Stays}
use Rattle.mapbook.proofs.plain.Plain.change_each.Given as goal

-- the changes that are left lead to where all of them do
abbrev pub invariant-loop-what : goal.invariant-loop-what
invariant-loop-what l =
    Stays (plain_records l.fn.self) (plain_records l.self) × ((plain_records l.self).is_open ≡ true) × (Answers (plain_records l.fn.self) → Answers (plain_records l.self))
    × ((plain_records l.self).is_clean ≡ true
    → changed_each l.registrar (changed l.policy) l.what-iterator.rest.items (plain_records l.self).content ≡ changed_each l.registrar (changed l.policy) l.fn.changes.items (plain_records l.fn.self).content)
