use Rattle.std.proofs.Common.{ap}
use Rattle.states.proofs.CallLemmas.{finds-on}
use Rattle.sqltables.proofs.AnswerLemmas.{reads-by}
use Rattle.sqltables.proofs.store.RowStore.select.Goals as goal

pub ask-requires-clause-plain : goal.ask-requires-clause-plain
ask-requires-clause-plain g c = c.requires.1.is.plain

pub ask-requires-clause-reads : goal.ask-requires-clause-reads
ask-requires-clause-reads g c = reads-by c.args.tree g.R.Record.shown _ _ c.requires.0 c.requires.1

pub returns : goal.returns
returns g c f asks =
    let look = c.in_ok-look.ensures.same.0 in
    finds-on c.ask.result c.args.self.now c.look.new.self c.ask.new.self _ _ look (λ e. ap f (look.content e)) (c.ask.ensures f asks)
