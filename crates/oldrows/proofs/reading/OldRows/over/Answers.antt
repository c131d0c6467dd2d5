use Rattle.std.proofs.Common.{inl, List, sym, ap, subst, ◌∙◌, arith}
use Rattle.sqlite.specs.{Effect.Database, Held.state, State.HasCleanDisk}
use Rattle.sqltables.specs.Content.{Content}
use Rattle.states.specs.States.{Remains}
use Rattle.oldrows.specs.inner.{Adoption.IsSeen, Stored.{GuardsOld, as_found}}
use Rattle.oldrows.proofs.AdoptedLemmas.{fits_found, guards_found, seen-alone, shown}
use Rattle.oldrows.proofs.reading.OldRows.over.Goals as goal

pub invariant_of-result : goal.invariant_of-result
invariant_of-result g c =
    let s = state g.S.Store c.args.conn in
    let alone = seen-alone (state g.S.Store) c.new.result.items c.and-seen.result.items c.args.conn c.in-Ok.said c.new.ensures c.and-seen.ensures in (
      fits_found s c.requires c.in-Ok.said (λ e. sym c.schema.ensures.value ∙ c.in-Ok.ensures.same e),
      subst (GuardsOld s) (sym alone)
          (guards_found s c.requires c.in-Ok.said (λ e. sym c.schema.ensures.value ∙ c.in-Ok.ensures.same e) (λ e is. c.in-Ok.ensures.other e (c.schema.ensures.value ∙ is)) (λ db opened may. g.met.S.Store.settled c.args.conn.store db opened may)),
    )

pub returns-clause-seen : goal.returns-clause-seen
returns-clause-seen g c trees same =
    let s = state g.S.Store c.args.conn in
    let alone = seen-alone (state g.S.Store) c.new.result.items c.and-seen.result.items c.args.conn c.in-Ok.said c.new.ensures c.and-seen.ensures in
    subst (λ (l : List (Remains Content)). IsSeen trees (as_found c.in-Ok.said s l)) (sym alone)
    (shown s c.requires c.in-Ok.said (λ e. sym c.schema.ensures.value ∙ c.in-Ok.ensures.same e) (λ e is. c.in-Ok.ensures.other e (c.schema.ensures.value ∙ is)) trees same)

pub returns-in-Err-clause-left : goal.returns-in-Err-clause-left
returns-in-Err-clause-left g c trees same clean db left =
    let s = state g.S.Store c.args.conn in
    let sure : HasCleanDisk s = omega (arith, c.into_store.ensures.quiet.clean, clean) in
    let it = (c.requires sure).0 in
    inl (g.met.S.Store.settled c.args.conn.store db it.is_open (c.into_store.ensures.quiet.outcomes db left) ∙ ap (λ (d : Database). d.trees) (sym it.clean) ∙ same sure)
