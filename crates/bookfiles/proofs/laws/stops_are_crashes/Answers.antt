use Rattle.bookfiles.proofs.RestartLemmas.{new-files-are-books, restarts-are-events, stops-are-crashes}
use Rattle.bookfiles.proofs.UnopenedLemmas.{failures-go-unnoticed, refusals-are-events}
use Rattle.bookfiles.proofs.laws.stops_are_crashes.Goals as goal

pub returns : goal.returns
returns g c = record {
  stops = stops-are-crashes g.D.Disk;
  restarts = restarts-are-events g.D.Disk;
  fresh = new-files-are-books;
  refusals = refusals-are-events g.D.Disk;
  failures = failures-go-unnoticed g.D.Disk;
}
