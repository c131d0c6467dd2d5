use Rattle.std.proofs.Common.{true, false}
use Rattle.wires.proofs.RoomLemmas.{takes_first}
use Rattle.wires.proofs.room.take_ready.Goals as goal

pub returns : goal.returns
returns g c =
    takes_first g.W.Waits.Tells true false c.deref.result.now c.args.waiting.now.items c.take_at.new.waiting.items c.ready_place-place.result c.take_at.result c.ready_place-place.ensures (cc) c.take_at.ensures.taken c.take_at.ensures.left
