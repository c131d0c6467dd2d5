use Rattle.std.proofs.Common.{sym, subst, ◌∙◌, arith}
use Rattle.sqlite_trees.proofs.Doubt.{no_doubt}
use Rattle.sqlite_trees.specs.View.{IsClean}
use Rattle.sqlite_pool.proofs.StateLemmas.{clean_is, may_leave_is}
use Rattle.sqlite_store.specs.FileStore.{recovers, view}
use Rattle.sqlite_wal.specs.{Files.outcomes, Reads.AreClean}
use Rattle.sqlite.specs.{Files.file_state, State.HasCleanDisk}
use Rattle.oldrows.specs.inner.Stored.{CoversOld}
use Rattle.sqltables.proofs.StandingLemmas.{clean-of}
use Rattle.takeover.proofs.FileLemmas.{old-found}
use Rattle.takeover.proofs.files.into_old_files.Goals as goal

pub returns : goal.returns
returns g c clean =
    let it = c.into_store.result in
    let conn = file_state c.into_connection.result in
    let sure = subst (λ p. AreClean g.D.Disk p.0 p.1) c.close.ensures clean in
    let none : IsClean (view it) = no_doubt _ (clean_is it.pool ∙ sure) in
    let consistent : HasCleanDisk conn = omega (arith, c.into_store.ensures.quiet.clean, none) in
    let covers : CoversOld c.args.rows.crash_leaves (recovers it) = λ db left. c.into_connection.ensures.covers consistent db (c.into_store.ensures.quiet.outcomes db left) in (
      sym c.into_connection.ensures.honest ∙ clean-of conn consistent,
      λ image may trees found. old-found it (c.into_store.ensures.numbered none) (c.into_store.ensures.sound none) image
          (may_leave_is it.pool image sure (subst (λ p. outcomes g.D.Disk p.0 p.1 image) c.close.ensures may)) trees found c.args.rows.crash_leaves covers,
    )
