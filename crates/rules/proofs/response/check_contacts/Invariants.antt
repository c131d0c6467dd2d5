use Rattle.std.proofs.Common.{◌≡◌, map, take}
use Rattle.rules.specs.ResponseData.{contact_result}
use Rattle.rules.proofs.response.check_contacts.Given as goal

abbrev pub invariant-loop-name : goal.invariant-loop-name
invariant-loop-name l = l.results.items ≡ map (contact_result l.facts) (take l.name-index l.names)
