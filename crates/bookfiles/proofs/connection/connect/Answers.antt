use Rattle.std.proofs.Common.{true, false, refl, sym, subst}
use Rattle.sqlite.specs.Files.{file_state}
use Rattle.sqlite_std_file.specs.File.{IsFresh}
use Rattle.sqlite_wal.specs.Files.{image_at}
use Rattle.sqltables.specs.inner.Faults as errors
use Rattle.sqltables.proofs.FoundLemmas.{found_in_files}
use Rattle.bookfiles.specs.Unopened.{AreLeft, GivesBack, never_for}
use Rattle.bookfiles.proofs.UnopenedLemmas.{some-weaker, unconnected-left}
use Rattle.bookfiles.proofs.connection.connect.Goals as goal

pub returns-in-Ok-clause-found : goal.returns-in-Ok-clause-found
returns-in-Ok-clause-found g c = found_in_files (image_at g.S.Start) (file_state c.in-Ok.conn) c.in-Ok.ensures.opened c.in-Ok.ensures.found

pub returns-in-Err-clause-left : goal.returns-in-Err-clause-left
returns-in-Err-clause-left g c =
    let P = AreLeft (IsFresh true) (IsFresh false) in
    subst (GivesBack P never_for never_for) (sym c.unconnected.ensures)
    (unconnected-left (errors.fault_of c.in-Err.left.0) c.in-Err.left.1 P never_for never_for (some-weaker c.in-Err.left.1 _ _ (λ left it. (it.0, it.1, it.2, λ clean. ((c.in-Err.left.0, refl, (it.3 clean).0), (it.3 clean).1))) c.in-Err.ensures.cause))
