use Rattle.std.proofs.Common.{◌≡◌, map, take}
use Rattle.rules.specs.inner.KnownData.{name_result}
use Rattle.rules.proofs.response.check_names.Given as goal

abbrev pub invariant-loop-name : goal.invariant-loop-name
invariant-loop-name l = l.results.items ≡ map (name_result l.named l.zone l.facts) (take l.name-index l.names)
