use Rattle.wires.specs.inner.Rooms.{Seats}
use Rattle.wires.proofs.room.seat_guests.Given as goal

abbrev pub invariant-guests : goal.invariant-guests
invariant-guests g l = Seats g.W.Waits.Tells (g.A.Accepts.Comes l.guests) l.fn.waiting.items l.waiting.items
