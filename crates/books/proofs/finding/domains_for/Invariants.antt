use Rattle.std.proofs.Common.{◌≡◌, true, map, take}
use Rattle.facts.specs.Facts.{domain_facts, lookups}
use Rattle.names.specs.RequestedName.{name_of}
use Rattle.states.specs.States.{Reads}
use Rattle.books.proofs.finding.domains_for.Given as goal

-- the facts of the names so far
abbrev pub invariant-loop-name : goal.invariant-loop-name
invariant-loop-name g l =
    Reads (g.R.Records.kept l.fn.records) (g.R.Records.kept l.records)
    × ((g.R.Records.kept l.records).is_clean ≡ true
    → l.domains ≡ map (λ name. domain_facts (lookups l.policy l.caller l.command (g.R.Records.kept l.fn.records).content.registry) l.command (name_of name)) (take l.name-index l.name-items))
