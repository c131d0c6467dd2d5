use Rattle.std.proofs.Common.{◌≡◌, drop}
use Rattle.facts.specs.Lists.{has_twice}
use Rattle.facts.proofs.lists.has_twice.Given as goal

-- nothing before this place stands again after it
abbrev pub invariant-loop-i : goal.invariant-loop-i
invariant-loop-i g l = has_twice g.T.Named.name l.items ≡ has_twice g.T.Named.name (drop l.i l.items)
