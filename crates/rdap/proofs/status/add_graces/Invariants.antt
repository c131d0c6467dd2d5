use Rattle.std.proofs.Common.{◌≡◌, ◌++◌, map, take}
use Rattle.rdap.specs.StatusWords.{grace_word}
use Rattle.rdap.proofs.status.add_graces.Given as goal

abbrev pub invariant-loop-state : goal.invariant-loop-state
invariant-loop-state l = l.words.items ≡ l.fn.words.items ++ map grace_word (take l.state-index l.states)
