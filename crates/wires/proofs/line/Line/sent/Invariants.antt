use Rattle.std.proofs.Common.{◌≡◌, ◌++◌, map, take}
use Rattle.wires.specs.inner.Log.{plain_of}
use Rattle.wires.proofs.line.Line.sent.Given as goal

abbrev pub invariant-loop-byte : goal.invariant-loop-byte
invariant-loop-byte l = l.self.bytes.items ≡ l.fn.self.bytes.items ++ l.fn.key ++ map plain_of (take l.byte-index l.front)
