use Rattle.std.proofs.Common.{◌≡◌, ◌++◌, true, drop}
use Rattle.concerns.specs.Concerns.{domain_name, domain_roid, meant, read_at}
use Rattle.states.specs.States.{Reads}
use Rattle.books.proofs.concerning.domains_meant.Given as goal

-- with what is read at the names that are left, all that is meant
abbrev pub invariant-loop-name : goal.invariant-loop-name
invariant-loop-name g l =
    Reads (g.R.Records.kept l.fn.records) (g.R.Records.kept l.records)
    × ((g.R.Records.kept l.records).is_clean ≡ true
    → (l.meant ++ read_at domain_name (g.R.Records.kept l.fn.records).content.registry.domains (drop l.name-index l.names) ≡ meant domain_name (g.R.Records.kept l.fn.records).content.registry.domains l.names)
    × (l.roids ++ read_at domain_roid (g.R.Records.kept l.fn.records).content.registry.domains (drop l.name-index l.names) ≡ read_at domain_roid (g.R.Records.kept l.fn.records).content.registry.domains l.names))
