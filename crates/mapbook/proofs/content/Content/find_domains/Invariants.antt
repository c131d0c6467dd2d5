use Rattle.std.proofs.Common.{◌≡◌}
use Rattle.mapbook.proofs.Words.{content_of, domain_due, entries, found_due}
use Rattle.mapbook.proofs.content.Content.find_domains.Given as goal

-- what is left adds what all of them do
abbrev pub invariant-loop-name : goal.invariant-loop-name
invariant-loop-name l = found_due (domain_due l.policy l.moment) l.found.keys l.name-iterator ≡ found_due (domain_due l.policy l.moment) l.fn.found.keys (entries (content_of l.self).registry.domains)
