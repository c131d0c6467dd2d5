use Rattle.std.proofs.Common.{◌≡◌, ◌++◌, true}
use Rattle.std.specs.List.{filter_map}
use Rattle.model.specs.Zone as spec
use Rattle.states.specs.States.{Reads}
use Rattle.books.proofs.zone.glue_of.Given as goal

-- nothing was changed; the glue so far and that of the hosts that are left
abbrev pub invariant-loop-host : goal.invariant-loop-host
invariant-loop-host g l =
    (goal.iterator-loop-host g).can_next l.host-iterator
    × (goal.iterator-loop-host g).is_finite l.host-iterator
    × Reads (g.R.Records.kept l.fn.records) (g.R.Records.kept l.records)
    × ((g.R.Records.kept l.records).is_clean ≡ true → l.glue ++ filter_map (spec.glue_at (g.R.Records.kept l.fn.records).content.registry) l.host-iterator ≡ spec.glue_of (g.R.Records.kept l.fn.records).content.registry l.names)
