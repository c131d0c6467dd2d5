use Rattle.std.proofs.Common.{inr}
use Rattle.eppwire.proofs.LateLemmas.{in_time}
use Rattle.eppwire.proofs.answer.answer_hello.Goals as goal

pub returns-in-Ok-clause-answered : goal.returns-in-Ok-clause-answered
returns-in-Ok-clause-answered g c =
    let h = c.in-Ok.ensures in
    inr (record {
      date = c.in-Ok.date;
      early = in_time c.in-Ok.date c.args.moment h.late;
      step = h.step;
      follows = c.greet.ensures.keeps.follows;
      answer_is = c.greeting.ensures;
    })
