use Rattle.std.proofs.Common.{◌≡◌, ◌&&◌, Bool, true, Result, OnOk, sym, ap, subst, ◌∙◌}
use Rattle.sqlite.specs.{Held.state, State.HasCleanDisk}
use Rattle.sqlrows.specs.inner.Calls.{StaysOrUndoes}
use Rattle.sqltables.proofs.StandingLemmas.{honest, prepared}
use Rattle.states.specs.declared.fault.BookFault.{BookFault}
use Rattle.oldrows.specs.{inner.Stored.{old_leaves, as_found}, Stored.{IsRead, OldState}}
use Rattle.oldrows.proofs.{AskingLemmas.{fits-stood, guards-on, reads-stood}, reading.OldRows.look.Goals.{in-Ok, in-Err}}
use Rattle.oldrows.proofs.reading.OldRows.look.Goals as goal

pub invariant_of-self : goal.invariant_of-self
invariant_of-self g c =
    let old = state g.S.Store c.self.inside.conn in
    let new = state g.S.Store c.prepare.new.self in
    let stood : (HasCleanDisk new → StaysOrUndoes old new) = prepared _ old new c.args.sql.now c.prepare.result c.prepare.ensures.ok c.prepare.ensures.err in (
      fits-stood c.self.inside.is_there old new _ c.prepare.ensures.survives c.self.invariant.0 (λ clean opened. stood clean),
      guards-on old new (old_leaves (state g.S.Store) c.self.inside.seen.items) (λ clean. c.prepare.ensures.survives) c.self.invariant.1,
    )

pub returns-clause-same : goal.returns-clause-same
returns-clause-same g c =
    let is_there = c.self.inside.is_there in
    let old = state g.S.Store c.self.inside.conn in
    let new = state g.S.Store c.prepare.new.self in
    let leaves = old_leaves (state g.S.Store) c.self.inside.seen.items in
    let stood : (HasCleanDisk new → StaysOrUndoes old new) = prepared _ old new c.args.sql.now c.prepare.result c.prepare.ensures.ok c.prepare.ensures.err in
    subst (λ (s : OldState). IsRead s (as_found is_there new leaves)) c.self.view_is (reads-stood is_there old new _ c.prepare.ensures.survives c.self.invariant.0 (λ clean opened. stood clean) leaves)

pub returns-clause-answers : goal.returns-clause-answers
returns-clause-answers g c =
    let new = state g.S.Store c.prepare.new.self in
    elim c.match-prepare.branch [
      | in-Ok w ↦ subst (λ (r : Result (Unit {0}) BookFault). OnOk r (new.is_clean ≡ true → (new.is_clean && new.is_open) ≡ true)) (sym w.result-is) (λ e. ap (λ (b : Bool). b && new.is_open) e ∙ (w.in-Ok.ensures.ok (honest new e)).1.0.is_open)
      | in-Err w ↦ subst (λ (r : Result (Unit {0}) BookFault). OnOk r (new.is_clean ≡ true → (new.is_clean && new.is_open) ≡ true)) (sym w.result-is) tt
    ]
