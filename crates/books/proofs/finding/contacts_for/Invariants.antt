use Rattle.std.proofs.Common.{◌≡◌, true, map, take}
use Rattle.facts.specs.Facts.{contact_facts, lookups}
use Rattle.states.specs.States.{Reads}
use Rattle.books.proofs.finding.contacts_for.Given as goal

-- the facts of the names so far
abbrev pub invariant-loop-name : goal.invariant-loop-name
invariant-loop-name g l =
    Reads (g.R.Records.kept l.fn.records) (g.R.Records.kept l.records)
    × ((g.R.Records.kept l.records).is_clean ≡ true
    → l.contacts ≡ map (contact_facts (lookups l.policy l.caller l.command (g.R.Records.kept l.fn.records).content.registry) l.command) (take l.name-index l.name-items))
