use Rattle.wires.proofs.RoomLemmas.{left_silent}
use Rattle.wires.proofs.room.has_room.Goals as goal

pub returns-else-len-lt-MOST_WAITING : goal.returns-else-len-lt-MOST_WAITING
returns-else-len-lt-MOST_WAITING g c =
    left_silent g.W.Waits.Tells c.args.waiting.now.items c.let_go_oldest_silent.new.waiting.items c.let_go_oldest_silent.result c.let_go_oldest_silent.ensures
