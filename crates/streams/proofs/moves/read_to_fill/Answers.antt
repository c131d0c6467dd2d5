use Rattle.std.proofs.{Common.{rules, subst, sym, le_refl}, KnownBytes.Consumes-kept, lemmas.Slice.take-put_mid_below}
use Rattle.std.specs.Io.KnownBytes.{Consumes}
use Rattle.streams.proofs.{MoveLemmas.reads_on, moves.read_to_fill.Goals.{in-Ok, in-Err}}
use Rattle.streams.proofs.moves.read_to_fill.Goals as goal

pub reads-preserved : goal.reads-preserved
reads-preserved g c =
    let before = c.reads.invariant in
    elim c.match-read.branch [
      | in-Ok w ↦ record {
        within = search rules;
        taken = rw w.count-is (reads_on _ _ _ _ _ _ _ _ before.within w.in-Ok.ensures.bound.0 before.taken w.in-Ok.ensures.bytes.0);
      }
      | in-Err w ↦ record {
        within = search rules;
        taken = rw w.count-is (subst (Consumes _ _) (sym (take-put_mid_below _ _ _ _ _ (le_refl _) before.within)) (Consumes-kept _ _ _ _ before.taken w.in-Err.ensures.bytes));
      }
    ]
