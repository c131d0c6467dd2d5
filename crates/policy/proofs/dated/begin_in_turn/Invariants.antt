use Rattle.std.proofs.Common.{◌≡◌, map, drop}
use Rattle.toml.specs.View.{view}
use Rattle.policy.specs.Reading.{begin_after}
use Rattle.policy.proofs.dated.begin_in_turn.Given as goal

-- all begin in turn where those that are left do after the last one
abbrev pub invariant-loop-table : goal.invariant-loop-table
invariant-loop-table l = begin_after 946_684_800 (map view l.tables) ≡ begin_after l.before (map view (drop l.table-index l.tables))
