use Rattle.std.proofs.Common.{Result, sym, subst}
use Rattle.sqlbook.proofs.{Words.{are_right, as_book, BookFault, Ends, stored_of}, SteadyLemmas.{ends-seen, steady-ended}}
use Rattle.sqlbook.proofs.records.SqlRecordsRecords.commit.Goals as goal

pub invariant_of-self : goal.invariant_of-self
invariant_of-self g c =
    let before = c.args.self.now in
    record { steady = steady-ended stored_of are_right g.O.Provenance.is_made before.store before.steady c.commit-said.result c.commit-said.new.self c.rollback_on_fault.new.store c.commit-said.ensures.ends c.commit-said.ensures.noted c.rollback_on_fault.ensures.on c.rollback_on_fault.ensures.idle c.rollback_on_fault.ensures.clean }

pub returns : goal.returns
returns g c =
    let before = c.args.self.now in
    subst (λ (r : Result (Unit {0}) BookFault). Ends r (as_book stored_of are_right before.store) (as_book stored_of are_right c.rollback_on_fault.new.store)) (sym c.rollback_on_fault.ensures.same)
    (ends-seen stored_of are_right g.O.Provenance.is_made before.store before.steady c.commit-said.result c.commit-said.new.self c.rollback_on_fault.new.store c.commit-said.ensures.ends c.commit-said.ensures.noted c.rollback_on_fault.ensures.on c.rollback_on_fault.ensures.idle)
