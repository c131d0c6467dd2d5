use Rattle.std.proofs.Common.{List, false, refl, sym, subst, arith}
use Rattle.sqltables.proofs.Words.{Content, Guards, IsShown, Remains, state, store_state}
use Rattle.sqltables.proofs.{AdoptedLemmas.{fits_found, found-other, guards_found, shown}, TurningLemmas.noted-alone}
use Rattle.sqltables.proofs.store.RowStore.over.Goals as goal

pub invariant_of-result : goal.invariant_of-result
invariant_of-result g c =
    let s = state g.S.Store c.args.conn in
    let form = c.in-Ok.form in
    let alone = noted-alone (state g.S.Store) c.new.result.items c.and-left.result.items c.args.conn form form c.new.ensures c.and-left.ensures refl in (
      fits_found s c.requires form c.in-Ok.ensures,
      subst (λ (l : List (Remains Content)). Guards false s l) (sym alone) (guards_found s c.requires form c.in-Ok.ensures (λ db opened may. g.met.S.Store.settled c.args.conn.store db opened may)),
      λ _ _. c.none.ensures _,
    )

pub returns-clause-shown : goal.returns-clause-shown
returns-clause-shown g c trees same =
    let s = state g.S.Store c.args.conn in
    let form = c.in-Ok.form in
    let alone = noted-alone (state g.S.Store) c.new.result.items c.and-left.result.items c.args.conn form form c.new.ensures c.and-left.ensures refl in
    subst (λ (l : List (Remains Content)). IsShown trees (store_state form false s l)) (sym alone) (shown s form trees c.requires c.in-Ok.ensures same)

pub returns-in-Err-clause-clean : goal.returns-in-Err-clause-clean
returns-in-Err-clause-clean g c clean = omega (arith, c.into_store.ensures.quiet.clean, clean)

pub returns-in-Other-clause-others : goal.returns-in-Other-clause-others
returns-in-Other-clause-others g c other clean = found-other (state g.S.Store c.args.conn) c.in-Ok.form c.requires c.in-Ok.ensures c.in-Other.is clean
