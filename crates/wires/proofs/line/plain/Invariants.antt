use Rattle.std.proofs.Common.{◌≡◌, map, take, string_bytes}
use Rattle.wires.specs.inner.Log.{plain_of}
use Rattle.wires.proofs.line.plain.Given as goal

abbrev pub invariant-loop-byte : goal.invariant-loop-byte
invariant-loop-byte l = string_bytes l.plain ≡ map plain_of (take l.byte-index l.front)
