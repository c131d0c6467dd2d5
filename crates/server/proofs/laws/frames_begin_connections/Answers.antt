use Rattle.server.proofs.ConnectionLemmas.{frames_begin}
use Rattle.server.proofs.laws.frames_begin_connections.Goals as goal

pub returns : goal.returns
returns c = frames_begin
