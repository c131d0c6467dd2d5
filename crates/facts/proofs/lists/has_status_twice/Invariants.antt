use Rattle.std.proofs.Common.{◌≡◌, drop}
use Rattle.objects.specs.StatusTexts.{status_text}
use Rattle.facts.specs.Lists.{has_twice}
use Rattle.facts.proofs.lists.has_status_twice.Given as goal

-- no status before this place stands again after it
abbrev pub invariant-loop-i : goal.invariant-loop-i
invariant-loop-i l = has_twice status_text l.statuses ≡ has_twice status_text (drop l.i l.statuses)
