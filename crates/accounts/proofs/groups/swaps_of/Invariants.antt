use Rattle.std.proofs.Common.{◌≡◌, ◌++◌, drop}
use Rattle.accounts.specs.Lines.{swaps_of}
use Rattle.accounts.proofs.groups.swaps_of.Given as goal

abbrev pub invariant-loop-line : goal.invariant-loop-line
invariant-loop-line g l =
    l.swaps.items ++ swaps_of (g.C.LineChange.changed l.change) (drop l.line-index l.lines) ≡ swaps_of (g.C.LineChange.changed l.change) l.lines
