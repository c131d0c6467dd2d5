use Rattle.wires.proofs.RoomLemmas.{seats_on}
use Rattle.wires.proofs.room.seat_guests.Goals as goal

pub returns-in-Some : goal.returns-in-Some
returns-in-Some g c =
    seats_on g.W.Waits.Tells (g.A.Accepts.Comes c.args.guests.now) c.args.waiting.now.items c.guests.waiting.items c.seat_next.new.waiting.items c.guests.invariant c.seat_next.ensures

pub guests-preserved : goal.guests-preserved
guests-preserved g c =
    seats_on g.W.Waits.Tells (g.A.Accepts.Comes c.args.guests.now) c.args.waiting.now.items c.guests.waiting.items c.seat_next.new.waiting.items c.guests.invariant c.seat_next.ensures
