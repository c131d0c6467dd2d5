use Rattle.server.proofs.HttpLemmas.{answered}
use Rattle.server.proofs.http.answer_request.Goals as goal

pub returns-clause-served : goal.returns-clause-served
returns-clause-served g c =
    answered (λ bytes. bytes.items) c.args.registry.policy c.args.head.now (g.C.Clock.moments c.args.clock.now) (g.B.Book.state c.args.registry.book) (g.W.Write.contents c.args.writer.now) (g.W.Write.contents c.write_answer-end.new.writer) (g.C.Clock.moments c.moment-moment.new.self)
    (g.B.Book.state c.answer_at-asked.result.registry.book) c.moment-moment.result c.answer_at-asked.result.answer c.write_answer-end.result c.moment-moment.ensures c.answer_at-asked.ensures.passes c.answer_at-asked.ensures.answer c.write_answer-end.ensures
