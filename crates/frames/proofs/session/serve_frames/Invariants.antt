use Rattle.std.proofs.Common.{◌≡◌, List, vec_len}
use Rattle.std.specs.Io.KnownBytes.{Appends}
use Rattle.frames.specs.{declared.frame.TheConstants.ROOM, Sessions.{Turn, Run, frames}}
use Rattle.frames.proofs.session.serve_frames.Given as goal

abbrev pub invariant-frames : goal.invariant-frames
invariant-frames g l = record {
  room : vec_len l.buffer ≡ ROOM;
  turns : List Turn;
  run : Run g.P.Peer.answers turns
      (record { input = g.R.Read.remaining l.fn.reader; clock = g.C.Clock.moments l.fn.clock; peer = l.fn.peer })
      (record { input = g.R.Read.remaining l.reader; clock = g.C.Clock.moments l.clock; peer = l.peer });
  written : Appends (g.W.Write.contents l.fn.writer) (g.W.Write.contents l.writer) (frames turns);
}
