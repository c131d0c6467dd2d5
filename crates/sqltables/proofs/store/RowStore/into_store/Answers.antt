use Rattle.std.proofs.Common.{sym, ◌∙◌, arith}
use Rattle.sqltables.proofs.{Words.{HasCleanDisk, state}, StandingLemmas.clean-of}
use Rattle.sqltables.proofs.store.RowStore.into_store.Goals as goal

pub returns : goal.returns
returns g c clean =
    let conn = state g.S.Store c.into_connection.result in
    let sure : HasCleanDisk conn = omega (arith, c.into_store.ensures.quiet.clean, clean) in (
      sym c.into_connection.ensures.honest ∙ clean-of conn sure,
      λ db left. c.into_connection.ensures.covers sure db (c.into_store.ensures.quiet.outcomes db left),
    )
