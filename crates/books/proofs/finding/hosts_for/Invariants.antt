use Rattle.std.proofs.Common.{◌≡◌, true, map, take}
use Rattle.names.specs.RequestedName.{name_of}
use Rattle.states.specs.States.{Reads}
use Rattle.books.specs.Lookups.{host_facts_in}
use Rattle.books.proofs.finding.hosts_for.Given as goal

-- the facts of the names so far
abbrev pub invariant-loop-name : goal.invariant-loop-name
invariant-loop-name g l =
    Reads (g.R.Records.kept l.fn.records) (g.R.Records.kept l.records)
    × ((g.R.Records.kept l.records).is_clean ≡ true → l.hosts ≡ map (λ name. host_facts_in l.command (g.R.Records.kept l.fn.records).content.registry (name_of name)) (take l.name-index l.name-items))
