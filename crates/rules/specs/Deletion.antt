-- How the deletion of a domain is answered (RFC 5731, 3.2.2; RFC 3915, 3.1).
use Rattle.std.specs.Prelude.{Bool, false, Option, Some, if◌then◌else◌}
use Rattle.facts.specs.declared.facts.DomainFacts.{DomainFacts}
use Rattle.objects.specs.declared.domain.DomainFace.{DomainFace}
use Rattle.objects.specs.declared.domain.FullDomain.{FullDomain}
use Rattle.objects.specs.declared.sight.Seen.{Seen}
use Rattle.objects.specs.declared.sight.Seen.TheVariants.{Full}
use Rattle.protocol.specs.declared.code.Code.{Code}
use Rattle.protocol.specs.declared.code.Code.TheVariants.{Completed, CompletedActionPending}
use Rattle.protocol.specs.declared.reply.Deleted.{Deleted}

-- a domain in the grace of its create is gone at once; another can be restored first
abbrev pub goes_at_once : Option (Seen FullDomain DomainFace) → Bool
goes_at_once (Some (Full known)) = known.standing.graces.add
goes_at_once _ = false

-- where the deletion goes on, the action is pending
abbrev pub code_of_deletion : Option (Seen FullDomain DomainFace) → Code
code_of_deletion seen = if goes_at_once seen then Completed else CompletedActionPending

-- its sponsor learns what it gets back
abbrev pub deleted : DomainFacts → Deleted
deleted known = record { name = known.name; refund = known.given_back.cents }
