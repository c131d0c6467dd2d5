use Rattle.registry.proofs.LapseSteps.{IsUnderWay}
use Rattle.registry.proofs.lapse.lapse_each.Given as goal

abbrev pub invariant-loop-it : goal.invariant-loop-it
invariant-loop-it g l = IsUnderWay l.policy l.moment l.postings.items l.it-iterator.rest.items l.fn.due (g.B.Book.state l.fn.book) (g.B.Book.state l.book)
