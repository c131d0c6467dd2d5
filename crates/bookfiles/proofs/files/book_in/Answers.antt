use Rattle.std.proofs.lemmas.Result.{IfOk-weaker}
use Rattle.sqlite.specs.Files.{file_state}
use Rattle.sqlite_store.specs.FileStore.{recovers, view}
use Rattle.sqlite_trees.specs.View.{IsClean}
use Rattle.sqlite_wal.specs.Files.{image_at}
use Rattle.bookfiles.specs.Restarts.{book_of}
use Rattle.bookfiles.proofs.{RestartLemmas.{idle_in, taken_in}, UnopenedLemmas.{book-taken, database-left, left-as-found}}
use Rattle.bookfiles.proofs.files.book_in.Goals as goal

pub returns-clause-taken : goal.returns-clause-taken
returns-clause-taken g c =
    book-taken c.taken.result c.or_database.result _ c.or_database.ensures
    (taken_in c.taken.result (λ book. book.records.store) (image_at g.S.Start) (file_state c.in_ok-conn.conn) c.in_ok-conn.ensures.finds
    (IfOk-weaker c.taken.result _ _ (λ book it. it.adopted) c.taken.ensures.book) c.taken.ensures.clean)

pub returns-clause-answers : goal.returns-clause-answers
returns-clause-answers g c = book-taken c.taken.result c.or_database.result _ c.or_database.ensures (IfOk-weaker c.taken.result _ _ (λ book it. it.adopted.answers) c.taken.ensures.book)

pub returns-clause-idle : goal.returns-clause-idle
returns-clause-idle g c =
    book-taken c.taken.result c.or_database.result _ c.or_database.ensures
    (idle_in c.taken.result (λ book. book_of book.records.store book.refused) (file_state c.in_ok-conn.conn).committed.trees
    (IfOk-weaker c.taken.result _ _ (λ book it. it.book) c.taken.ensures.book))

pub returns-clause-left : goal.returns-clause-left
returns-clause-left g c =
    let found = file_state c.in_ok-conn.conn in
    database-left c.taken.result c.or_database.result _ _ _ c.or_database.ensures
    (left-as-found c.taken.result (λ store. IsClean (view store)) recovers (image_at g.S.Start) found c.in_ok-conn.ensures.finds c.taken.ensures.was_clean c.taken.ensures.refused c.taken.ensures.others)
