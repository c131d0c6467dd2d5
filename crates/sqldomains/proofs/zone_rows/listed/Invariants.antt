use Rattle.std.proofs.Common.{◌≡◌, ◌++◌}
use Rattle.std.specs.FinMap.{values}
use Rattle.sqldomains.proofs.zone_rows.listed.Given as goal

-- what is listed so far and what is left
abbrev pub invariant-loop-delegation : goal.invariant-loop-delegation
invariant-loop-delegation l = l.list ++ l.delegation-iterator ≡ values l.fn.all
