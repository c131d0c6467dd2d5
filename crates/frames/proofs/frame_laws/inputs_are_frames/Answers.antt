use Rattle.frames.proofs.SplitLemmas.{inputs_split, inputs_split_once}
use Rattle.frames.proofs.frame_laws.inputs_are_frames.Goals as goal

pub returns : goal.returns
returns c = record { some = inputs_split; once = inputs_split_once }
