use Rattle.std.proofs.Common.{◌≡◌, ◌++◌, drop}
use Rattle.facts.specs.Lists.{kept}
use Rattle.facts.proofs.lists.kept_names.Given as goal

abbrev pub invariant-loop-name : goal.invariant-loop-name
invariant-loop-name g l = l.names.items ++ kept g.T.Named.name (drop l.name-index l.old) l.removed ≡ kept g.T.Named.name l.old l.removed
