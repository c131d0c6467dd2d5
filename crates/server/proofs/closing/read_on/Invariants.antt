use Rattle.std.proofs.Common.{◌≡◌, ◌*◌, length}
use Rattle.server.specs.inner.Closing.{TakesUpTo, most_piece}
use Rattle.server.proofs.closing.read_on.Given as goal

abbrev pub invariant-reads : goal.invariant-reads
invariant-reads g l = record {
  room : length l.piece ≡ most_piece;
  taken : TakesUpTo (65536 * l._turn) (g.R.Read.remaining l.fn.reader) (g.R.Read.remaining l.reader);
}
