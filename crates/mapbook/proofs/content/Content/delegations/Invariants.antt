use Rattle.std.proofs.Common.{◌≡◌, ◌++◌, map}
use Rattle.mapbook.specs.Plain.{registry_in}
use Rattle.model.specs.Zone.{delegations}
use Rattle.objects.specs.Delegations.{delegation_of}
use Rattle.mapbook.proofs.content.Content.delegations.Given as goal

-- what is listed so far, and what the zone has of the domains that are left
abbrev pub invariant-loop-domain : goal.invariant-loop-domain
invariant-loop-domain l = l.list ++ map delegation_of l.domain-iterator ≡ delegations (registry_in l.self)
