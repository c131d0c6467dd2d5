use Rattle.eppwire.proofs.LateLemmas.{late_frames}
use Rattle.eppwire.proofs.laws.late_frames_fail.Goals as goal

pub returns : goal.returns
returns c = late_frames
