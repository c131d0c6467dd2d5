use Rattle.std.proofs.Common.{rules, arith}
use Rattle.server.proofs.{ClosingLemmas.{takes_nothing, takes_more, takes_no_more}, closing.read_on.Goals.{in-Ok, in-Err}}
use Rattle.server.proofs.closing.read_on.Goals as goal

pub reads-init : goal.reads-init
reads-init g c = record { room = search rules; taken = takes_nothing _ }

pub reads-preserved : goal.reads-preserved
reads-preserved g c =
    let before = c.reads.invariant in
    elim c.match-read.branch [
      | in-Ok w ↦ record { room = search rules; taken = takes_more _ _ _ _ _ _ (omega (arith, w.in-Ok.ensures.bound.0, before.room)) before.taken w.in-Ok.ensures.bytes.0 }
      | in-Err w ↦ record { room = search rules; taken = takes_no_more _ _ _ _ before.taken w.in-Err.ensures.bytes }
    ]
