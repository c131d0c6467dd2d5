use Rattle.std.proofs.{Common.{ℕ, arith, length-take, length-drop}, KnownBytes.Appends-kept}
use Rattle.streams.proofs.{MoveLemmas.writes_on, moves.write_all.Goals.{in-Ok, in-Err}}
use Rattle.streams.proofs.moves.write_all.Goals as goal

pub writes-preserved : goal.writes-preserved
writes-preserved g c =
    let before = c.writes.invariant in
    elim c.match-write.branch [
      | in-Ok w ↦ record {
        within = omega (arith, w.sent-is, w.in-Ok.ensures.bound, length-take {A = ℕ}, length-drop {A = ℕ});
        written = rw w.sent-is (writes_on _ _ _ _ _ _ before.within before.written w.in-Ok.ensures.bytes);
      }
      | in-Err w ↦ record {
        within = omega arith;
        written = rw w.sent-is (Appends-kept _ _ _ _ before.written w.in-Err.ensures.bytes);
      }
    ]
