use Rattle.std.proofs.Common.{true, false}
use Rattle.sqlite_std_file.specs.File.{IsFresh}
use Rattle.sqlite_store.specs.FileStore.{recovers, view}
use Rattle.sqlite_trees.specs.View.{IsClean}
use Rattle.sqlite_wal.specs.Files.{image_at}
use Rattle.bookfiles.specs.{Restarts.book_of, Unopened.{AreLeft, IsLeftAsFound, never_for}}
use Rattle.bookfiles.proofs.UnopenedLemmas.{gives-back, refused-in}
use Rattle.bookfiles.proofs.files.open_in.Goals as goal

pub returns-in-Ok-clause-left : goal.returns-in-Ok-clause-left
returns-in-Ok-clause-left g c =
    let book = c.in-Ok.book in
    refused-in c.open.result (AreLeft (IsFresh true) (IsFresh false)) (λ cause store. IsClean (view store) → IsLeftAsFound (image_at g.S.Start) cause (recovers store))
    (λ left. book_of left.records.store left.refused) (image_at g.S.Start) c.args.policy book.records.store book.refused
    c.in-Ok.ensures.taken c.in-Ok.ensures.answers c.in-Ok.ensures.idle c.open.ensures.refused

pub returns-in-Err-clause-left : goal.returns-in-Err-clause-left
returns-in-Err-clause-left g c =
    gives-back (AreLeft (IsFresh true) (IsFresh false)) _ (λ cause store. IsClean (view store) → IsLeftAsFound (image_at g.S.Start) cause (recovers store)) _ never_for _
    (λ fault left it. it) (λ cause store it. it) (λ fault book it. absurd it) c.in-Err.left c.in-Err.ensures.left
