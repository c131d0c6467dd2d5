use Rattle.takeover.proofs.FileLemmas.{new-files, old-files-stay}
use Rattle.takeover.proofs.laws.takeovers_are_whole.Goals as goal

pub returns : goal.returns
returns g c = record { from = old-files-stay g.D.Disk; into = new-files g.E.Disk }
