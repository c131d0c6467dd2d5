use Rattle.std.proofs.Common.{◌∙◌, List, ap, sym}
use Rattle.accounts.specs.{declared.message.Message.Message, Queue.{dropped, put}}
use Rattle.accounts.proofs.QueueLaws.{put-dropped}
use Rattle.accounts.proofs.queue.Queue.has.Goals as goal

pub returns-then-len-gt0-clause-back : goal.returns-then-len-gt0-clause-back
returns-then-len-gt0-clause-back c = λ there.
    ap (λ (ms : List Message). put c.args.message.now (dropped c.args.message.now ms)) (sym c.self.view_is)
    ∙ put-dropped c.args.message.now c.self.inside.messages.keys c.len.ensures.ordered (sym c.contains.ensures ∙ there)
    ∙ c.self.view_is
