use Rattle.std.proofs.Common.{inr, sym, ◌∙◌, arith}
use Rattle.sqlite.specs.{Held.state, State.HasCleanDisk}
use Rattle.sqltables.proofs.StandingLemmas.{clean-of}
use Rattle.oldrows.proofs.AdoptedLemmas.{left-alone}
use Rattle.oldrows.proofs.reading.OldRows.numbered.Goals as goal

pub returns-in-Err-clause-left : goal.returns-in-Err-clause-left
returns-in-Err-clause-left g c trees seen clean db may =
    let conn = state g.S.Store c.into_connection.result in
    let sure : HasCleanDisk conn = omega (arith, c.into_store.ensures.quiet.clean, clean) in
    inr (left-alone trees c.args.old c.metas.new.self seen c.in-Err.ensures (sym c.into_connection.ensures.honest ∙ clean-of conn sure) _ (λ db left. c.into_connection.ensures.covers sure db (c.into_store.ensures.quiet.outcomes db left)) db may)
