-- The data of an object, if it is there, and of a case.
use Rattle.std.specs.Prelude.{ℕ, List, Option, option_and_then, option_map}
use Rattle.std.specs.Borrow.{Bor}
use Rattle.std.specs.Option.{option_copied}
use Rattle.facts.specs.declared.facts.ContactFacts.{ContactFacts}
use Rattle.facts.specs.declared.facts.DomainFacts.{DomainFacts}
use Rattle.facts.specs.declared.facts.Facts.{Facts}
use Rattle.facts.specs.declared.facts.HostFacts.{HostFacts}
use Rattle.facts.specs.declared.facts.QueueFacts.{QueueFacts}
use Rattle.names.specs.RequestedName.{RequestedName}
use Rattle.names.specs.Zone.{ZoneRules}
use Rattle.objects.specs.declared.domain.DomainFace.{DomainFace}
use Rattle.objects.specs.declared.domain.FullDomain.{FullDomain}
use Rattle.objects.specs.declared.sight.Seen.{Seen}
use Rattle.policy.specs.Rules.{PolicyRules}
use Rattle.protocol.specs.declared.reply.CheckResult.{CheckResult}
use Rattle.protocol.specs.declared.reply.Data.{Data}
use Rattle.protocol.specs.declared.reply.Data.TheVariants as res_data
use Rattle.rules.specs.declared.case.Case.{Case}
use Rattle.rules.specs.declared.response.Named.{Named}
use Rattle.rules.specs.declared.response.Named.TheVariants as names
use Rattle.rules.specs.declared.verdict.Verdict.{Verdict}
use Rattle.rules.specs.Conditions.{domain_in_full}
use Rattle.rules.specs.Deletion.{deleted}
use Rattle.rules.specs.Poll.{polled}
use Rattle.rules.specs.Verdicts.{granted, unless_refused}
use Rattle.rules.specs.inner.Cases.{refusal_in}
use Rattle.rules.specs.ResponseData.{contact_info_at, domain_info_at, domain_result, host_info_at, host_result, renewed, response_data}

-- of a name, by the kind that it is to name
abbrev pub name_result : Named → ZoneRules → Facts → RequestedName → CheckResult
name_result names.OfDomain = domain_result
name_result names.OfHost = host_result

abbrev pub deleted_data : Option (Bor DomainFacts) → Option Data
deleted_data known = option_map res_data.Deleted (option_map deleted (option_copied known))

abbrev pub polled_data : QueueFacts → Option Data
polled_data queue = option_map res_data.Polled (option_map (polled queue.waiting) queue.oldest)

-- of a domain that is seen in full
abbrev pub renewed_data : ℕ → RequestedName → ℕ → Option (Bor (Seen FullDomain DomainFace))
    → Option Data
renewed_data charge name years seen = option_map res_data.Renewed (option_map (renewed charge name years) (option_and_then domain_in_full (option_copied seen)))

abbrev pub contact_data : PolicyRules → ℕ → Option (Bor (List ℕ)) → Option (Bor ContactFacts)
    → Option Data
contact_data p r secret known = option_map res_data.Contact (option_and_then (contact_info_at p r (option_copied secret)) (option_copied known))

abbrev pub domain_data : PolicyRules → ℕ → Option (Bor (List ℕ)) → Option (Bor DomainFacts)
    → Option Data
domain_data p r secret known = option_map res_data.Domain (option_and_then (domain_info_at p r (option_copied secret)) (option_copied known))

abbrev pub host_data : PolicyRules → Option (Bor HostFacts) → Option Data
host_data p known = option_map res_data.Host (option_and_then (host_info_at p) (option_copied known))

-- the data of a case
abbrev pub data_in : Case → Option Data
data_in it = response_data it.policy.now it.caller it.moment it.request.now it.facts.now

-- what a well formed command is answered, and what unless it is refused
abbrev pub grant_in : Case → Verdict
grant_in it = granted it.policy.now it.caller it.moment it.request.now it.facts.now

abbrev pub answer_in : Case → Verdict
answer_in it = unless_refused (refusal_in it) (grant_in it)
