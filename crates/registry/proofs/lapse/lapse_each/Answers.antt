use Rattle.std.proofs.Common.{rules}
use Rattle.registry.proofs.LapseSteps.{lapsed-more}
use Rattle.registry.proofs.lapse.lapse_each.Goals as goal

pub loop-it-preserved : goal.loop-it-preserved
loop-it-preserved g c =
    lapsed-more c.args.policy.now c.args.moment c.loop-it.postings.items c.lapse_one.new.postings.items c.in-Some.it c.next.new.self.rest.items c.args.due (g.B.Book.state c.args.book.now) (g.B.Book.state c.loop-it.book) (g.B.Book.state c.lapse_one.new.book)
    (search rules) (c.in_ok-lapse_one.ensures {u = tt})
