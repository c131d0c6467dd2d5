use Rattle.std.proofs.Common.{◌≡◌, take}
use Rattle.std.specs.Prelude.{fold}
use Rattle.policy.specs.Rules.{then_by}
use Rattle.policy.proofs.schedule.Schedule.in_force.Given as goal

-- the lengths in force by the tables so far
abbrev pub invariant-loop-table : goal.invariant-loop-table
invariant-loop-table l = l.days ≡ fold (then_by l.moment) l.self.first (take l.table-index l.table-items)
