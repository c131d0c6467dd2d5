use Rattle.std.proofs.Common.{◌≡◌, true, drop}
use Rattle.mapbook.proofs.Words.{Answers, host_renamed_in, plain_records, Stays}
use Rattle.mapbook.proofs.plain.Plain.rename_in.Given as goal

-- the domains that are left lead to where all of them do
abbrev pub invariant-loop-name : goal.invariant-loop-name
invariant-loop-name l =
    Stays (plain_records l.fn.self) (plain_records l.self) × ((plain_records l.self).is_open ≡ true) × (Answers (plain_records l.fn.self) → Answers (plain_records l.self))
    × ((plain_records l.self).is_clean ≡ true → host_renamed_in l.from l.to (drop l.name-index l.names) (plain_records l.self).content ≡ host_renamed_in l.from l.to l.names (plain_records l.fn.self).content)
