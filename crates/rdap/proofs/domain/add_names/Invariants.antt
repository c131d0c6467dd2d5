use Rattle.std.proofs.Common.{◌≡◌, ◌++◌, take}
use Rattle.rdap.proofs.domain.add_names.Given as goal

abbrev pub invariant-loop-name : goal.invariant-loop-name
invariant-loop-name l = l.names.items ≡ l.fn.names.items ++ take l.name-index l.more
