use Rattle.std.proofs.Common.{Bool, List, is_ok}
use Rattle.wires.specs.inner.Rooms.{AreLeft, LetsGoSilent, Seats}
use Rattle.wires.proofs.RoomLemmas.{left_on, left_silent, seats_left, seats_one}
use Rattle.wires.proofs.room.seat_next.Goals as goal

-- the oldest silent one goes, where there is one, and nobody comes
wants : {W : Type 0} (Tells : W → Bool → Type 0) (Comes : W → Type 0) (old between new : List W) (is_one : Bool) → AreLeft Tells old between → LetsGoSilent Tells between new is_one → Seats Tells Comes old new
wants Tells Comes old between new is_one left gone =
    seats_left Tells Comes old new (left_on Tells old between new left (left_silent Tells between new is_one gone))

pub returns-in-One : goal.returns-in-One
returns-in-One g c =
    seats_one g.W.Waits.Tells (g.A.Accepts.Comes c.args.guests.now) c.args.waiting.now.items c.has_room.new.waiting.items c.push.new.self.items c.in-One.guest (is_ok c.push.result) c.has_room.ensures c.in-One.ensures c.push.ensures.items

pub returns-in-Want : goal.returns-in-Want
returns-in-Want g c =
    wants g.W.Waits.Tells (g.A.Accepts.Comes c.args.guests.now) c.args.waiting.now.items c.has_room.new.waiting.items c.let_go_oldest_silent.new.waiting.items c.let_go_oldest_silent.result c.has_room.ensures c.let_go_oldest_silent.ensures

pub returns-in-Want-2 : goal.returns-in-Want-2
returns-in-Want-2 g c =
    wants g.W.Waits.Tells (g.A.Accepts.Comes c.args.guests.now) c.args.waiting.now.items c.has_room.new.waiting.items c.let_go_oldest_silent.new.waiting.items c.let_go_oldest_silent.result c.has_room.ensures c.let_go_oldest_silent.ensures
