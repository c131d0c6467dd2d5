use Rattle.frames.proofs.SessionLemmas.{takes_in_order}
use Rattle.frames.proofs.session_laws.sessions_take_frames.Goals as goal

pub returns : goal.returns
returns g c = takes_in_order g.P.Peer.answers
