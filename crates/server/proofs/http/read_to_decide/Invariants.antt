use Rattle.std.proofs.Common.{◌≤◌, length, take}
use Rattle.std.specs.Io.KnownBytes.{Consumes}
use Rattle.rdap.specs.Heads.{most_bytes}
use Rattle.server.specs.Http.{IsNeeded}
use Rattle.server.proofs.http.read_to_decide.Given as goal

abbrev pub invariant-reads : goal.invariant-reads
invariant-reads g l = record {
  room : most_bytes ≤ length l.buffer;
  within : l.count ≤ length l.buffer;
  taken : Consumes (g.R.Read.remaining l.fn.reader) (g.R.Read.remaining l.reader) (take l.count l.buffer);
  needed : IsNeeded (take l.count l.buffer);
}
