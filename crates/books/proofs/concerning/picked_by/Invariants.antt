use Rattle.std.proofs.Common.{◌≡◌, ◌++◌, true, filter}
use Rattle.states.specs.States.{Reads}
use Rattle.concerns.specs.DueFor.{picks_by}
use Rattle.books.proofs.concerning.picked_by.Given as goal

-- with those of what is left that are picked, all of them
abbrev pub invariant-loop-it : goal.invariant-loop-it
invariant-loop-it g l =
    Reads (g.R.Records.kept l.fn.records) (g.R.Records.kept l.records)
    × ((g.R.Records.kept l.records).is_clean ≡ true
    → l.picked ++ filter (picks_by l.caller l.names l.meant (g.R.Records.kept l.fn.records).content.registry) l.it-iterator.rest.items ≡ filter (picks_by l.caller l.names l.meant (g.R.Records.kept l.fn.records).content.registry) l.fn.due)
