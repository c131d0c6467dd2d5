use Rattle.streams.proofs.MoveLemmas.{OnErr-from}
use Rattle.script.proofs.BeginLemmas.{front_of_more, line_begun}
use Rattle.script.proofs.script.print.Goals as goal

pub returns-in_err-make_room-clause-begun : goal.returns-in_err-make_room-clause-begun
returns-in_err-make_room-clause-begun g c = OnErr-from c.from_residual.result (front_of_more _ _ _ _ c.in_err-make_room.ensures.begun)

pub returns-in_err-add-clause-begun : goal.returns-in_err-add-clause-begun
returns-in_err-add-clause-begun g c = OnErr-from c.from_residual-in_err-add.result (line_begun _ _ _ _ _ _ c.in_ok-make_room.ensures.same c.in_err-add.ensures.begun)
