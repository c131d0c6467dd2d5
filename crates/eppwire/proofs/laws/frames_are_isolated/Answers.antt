use Rattle.eppwire.proofs.IsolationLemmas.{isolated_frames}
use Rattle.eppwire.proofs.laws.frames_are_isolated.Goals as goal

pub returns : goal.returns
returns c = isolated_frames
