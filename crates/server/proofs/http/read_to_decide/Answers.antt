use Rattle.std.proofs.{Common.{◌≡◌, rules, subst, sym, le_refl}, KnownBytes.Consumes-kept, lemmas.Slice.take-put_mid_below}
use Rattle.std.specs.Io.KnownBytes.{Consumes}
use Rattle.server.proofs.{HttpLemmas.{needs_more, read_nothing}, http.read_to_decide.Goals.{in-Ok, in-Err}}
use Rattle.server.specs.Http.{IsNeeded}
use Rattle.streams.proofs.MoveLemmas.{reads_on}
use Rattle.server.proofs.http.read_to_decide.Goals as goal

pub reads-preserved : goal.reads-preserved
reads-preserved g c =
    let before = c.reads.invariant in
    elim c.match-read.branch [
      | in-Ok w ↦ record {
        room = search rules;
        within = search rules;
        taken = rw w.count-is (reads_on _ _ _ _ _ _ _ _ before.within w.in-Ok.ensures.bound.0 before.taken w.in-Ok.ensures.bytes.0);
        needed = rw w.count-is (needs_more _ _ _ _ _ before.within (c.is_decided.ensures.cut c.if-is_decided.false));
      }
      | in-Err w ↦ record {
        room = search rules;
        within = search rules;
        taken = rw w.count-is (subst (Consumes _ _) (sym (take-put_mid_below _ _ _ _ _ (le_refl _) before.within)) (Consumes-kept _ _ _ _ before.taken w.in-Err.ensures.bytes));
        needed = rw w.count-is (subst IsNeeded (sym (take-put_mid_below _ _ _ _ _ (le_refl _) before.within)) before.needed);
      }
    ]

pub returns-in-Ok-eq0-clause-read : goal.returns-in-Ok-eq0-clause-read
returns-in-Ok-eq0-clause-read g c =
    let before = c.reads.invariant in
    let same = take-put_mid_below _ _ _ _ _ (le_refl _) before.within in
    let none : c.in-Ok-eq0.field-0 ≡ 0 = search rules in
    record {
      bytes = subst (Consumes _ _) (sym same) (read_nothing _ _ _ _ _ _ _ c.in-Ok-eq0.is none before.taken c.read.ensures.bytes);
      enough = search rules;
      needed = subst IsNeeded (sym same) before.needed;
    }
