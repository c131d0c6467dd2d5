use Rattle.std.proofs.Common.{◌≡◌, ◌+◌, true, List, ℕ, length}
use Rattle.std.specs.Io.KnownBytes.{Appends, append_known}
use Rattle.script.specs.Runs.{kept}
use Rattle.script.proofs.RunLemmas.{ArePrinted, Reads}
use Rattle.books.specs.Book.{Follows}
use Rattle.script.proofs.script.answer_lines.Given as goal

abbrev pub invariant-loop-number : goal.invariant-loop-number
invariant-loop-number g l = record {
  lines : List (List ℕ);
  policy : l.registry.policy ≡ l.fn.registry.policy;
  count : l.number ≡ length lines + 1;
  read : Reads lines (g.R.Read.remaining l.fn.reader) (g.R.Read.remaining l.reader);
  sent : (sent : List ℕ) × Appends (g.W.Write.contents l.fn.writer) (g.W.Write.contents l.writer) sent;
  follows : Follows (g.B.Book.state l.fn.registry.book) (g.B.Book.state l.registry.book);
  is_printed : (g.B.Book.state l.registry.book).is_clean ≡ true
      → ArePrinted l.fn.registry.policy lines (kept (g.B.Book.state l.fn.registry.book)) (kept (g.B.Book.state l.registry.book)) (append_known (g.W.Write.contents l.fn.writer) l.fn.pending.items) (append_known (g.W.Write.contents l.writer) l.pending.items);
}
