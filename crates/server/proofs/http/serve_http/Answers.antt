use Rattle.server.proofs.HttpLemmas.{of_input}
use Rattle.server.proofs.http.serve_http.Goals as goal

pub returns-clause-served : goal.returns-clause-served
returns-clause-served g c =
    of_input c.args.registry.policy (g.C.Clock.moments c.args.clock.now) (g.B.Book.state c.args.registry.book) (g.C.Clock.moments c.answer_request.new.clock) (g.B.Book.state c.answer_request.result.registry.book)
    (g.R.Read.remaining c.args.reader.now) (g.R.Read.remaining c.read_request.new.reader) c.deref.result.now (g.W.Write.contents c.args.writer.now) (g.W.Write.contents c.answer_request.new.writer) c.answer_request.result.end
    (rw c.deref.ensures.value c.in-Some.ensures) c.answer_request.ensures.served
