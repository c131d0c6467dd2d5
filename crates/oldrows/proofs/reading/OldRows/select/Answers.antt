use Rattle.oldrows.proofs.AskingLemmas.{asked-behind}
use Rattle.oldrows.proofs.reading.OldRows.select.Goals as goal

pub returns : goal.returns
returns g c f asks = asked-behind c.ask.result c.args.self.now c.look.new.self c.ask.new.self f c.look.ensures.same c.in_ok-look.ensures.answers (c.ask.ensures f asks)
