use Rattle.std.proofs.Common.{◌≤◌, length, take}
use Rattle.std.specs.Io.KnownBytes.{Consumes}
use Rattle.operator.specs.Heard.{most_head}
use Rattle.operator.proofs.hearing.read_to_head.Given as goal

abbrev pub invariant-reads : goal.invariant-reads
invariant-reads g l = record {
  room : most_head ≤ length l.buffer;
  within : l.count ≤ length l.buffer;
  taken : Consumes (g.R.Read.remaining l.fn.reader) (g.R.Read.remaining l.reader) (take l.count l.buffer);
}
