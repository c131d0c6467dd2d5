use Rattle.std.proofs.Common.{ap, inr}
use Rattle.eppreplies.specs.Reply.{reply_text}
use Rattle.eppwire.proofs.LateLemmas.{in_time}
use Rattle.eppwire.proofs.answer.answer_command.Goals as goal

pub returns-in-Ok-clause-answered : goal.returns-in-Ok-clause-answered
returns-in-Ok-clause-answered g c =
    let h = c.in-Ok.ensures in
    inr (record {
      reply = c.in-Ok.reply;
      early = in_time c.in-Ok.reply c.args.moment h.late;
      step = h.step;
      isolation = h.isolation;
      bytes = λ clean other same. ap reply_text ((h.isolation clean).same_reply other same);
      follows = c.execute.ensures.keeps.follows;
      answer_is = c.reply_answer-answer.ensures;
    })
