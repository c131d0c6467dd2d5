use Rattle.std.proofs.Common.{◌≡◌, true}
use Rattle.books.specs.{Book.with_changes, Tables.maybe_posted}
use Rattle.states.specs.States.{Answers, Stays}
use Rattle.books.proofs.applying.make_all.Given as goal

-- the changes that are left lead to where all of them do
abbrev pub invariant-loop-change : goal.invariant-loop-change
invariant-loop-change g l =
    Stays (g.R.Records.kept l.fn.records) (g.R.Records.kept l.records) × ((g.R.Records.kept l.records).is_open ≡ true) × (Answers (g.R.Records.kept l.fn.records) → Answers (g.R.Records.kept l.records))
    × ((g.R.Records.kept l.records).is_clean ≡ true
    → with_changes l.policy l.change-iterator.rest.items (maybe_posted l.policy l.posts (g.R.Records.kept l.records).content) ≡ with_changes l.policy l.fn.changes.items (maybe_posted l.policy l.fn.posts (g.R.Records.kept l.fn.records).content))
