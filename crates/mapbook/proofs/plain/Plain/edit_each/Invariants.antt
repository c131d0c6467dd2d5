use Rattle.std.proofs.Common.{◌≡◌, true}
use Rattle.mapbook.proofs.Words.{account_edited, Answers, changed_each, plain_records, Stays}
use Rattle.mapbook.proofs.plain.Plain.edit_each.Given as goal

-- the edits that are left lead to where all of them do
abbrev pub invariant-loop-edit : goal.invariant-loop-edit
invariant-loop-edit l =
    Stays (plain_records l.fn.self) (plain_records l.self) × ((plain_records l.self).is_open ≡ true) × (Answers (plain_records l.fn.self) → Answers (plain_records l.self))
    × ((plain_records l.self).is_clean ≡ true
    → changed_each l.registrar account_edited l.edit-iterator.rest.items (plain_records l.self).content ≡ changed_each l.registrar account_edited l.fn.edits.items (plain_records l.fn.self).content)
