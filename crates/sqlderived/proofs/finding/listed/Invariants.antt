use Rattle.std.proofs.Common.{◌≡◌, ◌++◌}
use Rattle.sqlderived.proofs.finding.listed.Given as goal

abbrev pub invariant-loop-it : goal.invariant-loop-it
invariant-loop-it l = l.due.items ++ l.it-iterator ≡ l.fn.found.keys
