use Rattle.wires.proofs.rooms.next_of_two.Goals as goal

pub returns : goal.returns
returns g c = (c.next-next.result, c.next-next.ensures, c.next_behind.ensures)
