use Rattle.std.proofs.Common.{◌≡◌, map, drop}
use Rattle.std.specs.List.{AllByRecursion}
use Rattle.toml.specs.View.{view}
use Rattle.policy.specs.{Reading.each_dated, Rules.AreDays, declared.schedule.DatedDays.DatedDays}
use Rattle.policy.proofs.TextLemmas.{with_front}
use Rattle.policy.proofs.dated.each_dated.Given as goal

-- the tables so far and those of the entries that are left are those of all
abbrev pub invariant-loop-table : goal.invariant-loop-table
invariant-loop-table l =
    (with_front l.dated.items (each_dated (map view (drop l.table-index l.tables))) ≡ each_dated (map view l.tables))
    × AllByRecursion (λ (table : DatedDays). AreDays table.days) l.dated.items
