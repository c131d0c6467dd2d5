-- The state of a domain at the registry's clock: the graces that run, and the phase of its deletion
-- (RFC 3915, 3.1).
use Rattle.lifecycle.specs.Graces.{graces, standing}
use Rattle.objects.specs.declared.domain.Domain.{Domain}
use Rattle.objects.specs.declared.grace.Graces.{Graces}
use Rattle.objects.specs.declared.grace.Standing.{Standing}
use Rattle.policy.specs.Rules.{PolicyRules}
use Rattle.model.specs.Registry.{Registry, account_of}

-- a domain has the graces that its sponsor's lines give
abbrev pub graces_of : PolicyRules → Registry → Domain → Graces
graces_of p s d = graces p s.clock d.roid d.transferred (account_of d.sponsor s).lines

abbrev pub standing_of : PolicyRules → Registry → Domain → Standing
standing_of p s d = standing p s.clock (account_of d.sponsor s).lines d
