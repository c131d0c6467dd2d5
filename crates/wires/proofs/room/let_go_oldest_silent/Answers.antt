use Rattle.wires.proofs.room.let_go_oldest_silent.Goals as goal

pub returns : goal.returns
returns g c = (c.take_silent-gone.result, c.take_silent-gone.ensures, c.is_some.ensures)
