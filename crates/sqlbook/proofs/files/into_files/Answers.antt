use Rattle.std.proofs.Common.{subst, ◌∙◌, arith}
use Rattle.sqlite_trees.proofs.Doubt.{no_doubt}
use Rattle.sqlite_trees.specs.View.{IsClean}
use Rattle.sqlite_pool.proofs.StateLemmas.{clean_is, may_leave_is}
use Rattle.sqlite_store.specs.FileStore.{recovers, view}
use Rattle.sqlite_wal.specs.{Files.outcomes, Reads.AreClean}
use Rattle.sqltables.specs.Stored.{Covers}
use Rattle.sqlbook.proofs.ReopeningLemmas.{file-reopened}
use Rattle.sqlbook.proofs.files.into_files.Goals as goal

pub returns : goal.returns
returns g c clean honest image may trees found new again adopted known =
    let it = c.into_store.result in
    let sure = subst (λ p. AreClean g.D.Disk p.0 p.1) c.close.ensures clean in
    let none : IsClean (view it) = no_doubt _ (clean_is it.pool ∙ sure) in
    let rows = c.args.book.records.store in
    let covers : Covers rows.crash_leaves (recovers it) = λ db left. c.into_connection.ensures.covers (omega (arith, c.into_store.ensures.quiet.clean)) db (c.into_store.ensures.quiet.outcomes db left) in
    file-reopened it (c.into_store.ensures.numbered none) (c.into_store.ensures.sound none) rows c.args.book.refused again covers honest image
    (may_leave_is it.pool image sure (subst (λ p. outcomes g.D.Disk p.0 p.1 image) c.close.ensures may)) trees found new adopted known
