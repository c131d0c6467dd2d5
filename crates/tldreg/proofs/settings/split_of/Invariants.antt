use Rattle.std.proofs.Common.{◌+◌, ◌≤◌, length}
use Rattle.tldreg.specs.inner.{Options.{AreTaken, taking}, Words.texts}
use Rattle.tldreg.proofs.settings.split_of.Given as goal

abbrev pub invariant-words : goal.invariant-words
invariant-words l = record {
  left : length (texts l.words) + l.counter ≤ l.end;
  taken : AreTaken (texts l.fn.words) (taking (texts l.words) l.split);
}
