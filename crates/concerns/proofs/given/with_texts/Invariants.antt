use Rattle.std.proofs.Common.{◌≡◌, ◌++◌, take}
use Rattle.concerns.proofs.given.with_texts.Given as goal

abbrev pub invariant-loop-name : goal.invariant-loop-name
invariant-loop-name l = l.names ≡ l.fn.names ++ take l.name-index l.more
