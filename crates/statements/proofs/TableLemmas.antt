-- Rows are written one after another.
use Rattle.std.proofs.Common.{◌≡◌, ℕ, ◌+◌, ℤ, ◌+ℤ◌, List, ◌∷◌, ◌++◌, drop, append_assoc, sym, ap, ◌∙◌}
use Rattle.accounts.specs.{declared.line.Line.Line, Lines.amount}
use Rattle.statements.specs.{declared.extract.Bounds.Bounds, Tables.{row_within, rows}}

pub one_more : (b : Bounds) (lines : List Line) (i : ℕ) (l : Line) (text later all : List ℕ) (balance after : ℤ) → drop i lines ≡ l ∷ drop (i + 1) lines
    → later ≡ text ++ row_within b l (balance +ℤ amount l) → after ≡ balance +ℤ amount l
    → text ++ rows b balance (drop i lines) ≡ all → later ++ rows b after (drop (i + 1) lines) ≡ all
unfolding rows
one_more b lines i l text later all balance after next written counted before =
    ap (λ (t : List ℕ). t ++ rows b after (drop (i + 1) lines)) written
    ∙ ap (λ (z : ℤ). (text ++ row_within b l (balance +ℤ amount l)) ++ rows b z (drop (i + 1) lines)) counted
    ∙ append_assoc text (row_within b l (balance +ℤ amount l)) (rows b (balance +ℤ amount l) (drop (i + 1) lines))
    ∙ ap (λ (ls : List Line). text ++ rows b balance ls) (sym next)
    ∙ before
