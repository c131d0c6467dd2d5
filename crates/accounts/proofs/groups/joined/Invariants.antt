use Rattle.std.proofs.Common.{◌≡◌, ◌++◌}
use Rattle.accounts.specs.Groups.{all_lines}
use Rattle.accounts.proofs.groups.joined.Given as goal

abbrev pub invariant-loop-group : goal.invariant-loop-group
invariant-loop-group l = l.lines.items ++ all_lines l.group-iterator ≡ all_lines l.groups.entries
