use Rattle.std.proofs.Common.{◌≡◌, true, sym, ap, ◌∙◌}
use Rattle.sqlbook.proofs.{Words.{are_all_right, are_right}, SteadyLemmas.steady-now}
use Rattle.sqlbook.proofs.records.SqlRecordsRecords.back.Goals as goal

pub invariant_of-self : goal.invariant_of-self
invariant_of-self g c =
    let before = c.args.self.now in
    let old = before.store in
    let new = c.back.new.self in
    let closes = c.back.ensures in
    let home : new.is_clean ≡ true → new.before ≡ old.before = λ e. c.show_rest.ensures closes.closed ∙ closes.content e in
    record {
      steady = steady-now are_right g.O.Provenance.is_made old new before.steady c.show_rest.ensures closes.closed c.show_clean.ensures (λ e. ap are_right (home e))
          (λ e. ap (are_all_right are_right) closes.leaves.same ∙ before.steady.leaves (closes.clean e) ∙ ap are_right (sym (home e)));
    }
