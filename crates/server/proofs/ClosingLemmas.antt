-- What reads behind the end of a connection take, each of them 65,536 bytes at most.
use Rattle.std.proofs.Common.{ℕ, ◌+◌, ◌*◌, ◌≤◌, Option, List, [], ◌++◌, length, take, arith, length-append, length-take}
use Rattle.std.proofs.KnownBytes.{Consumes-nil, Consumes-trans, Consumes-kept}
use Rattle.std.specs.Io.KnownBytes.{Consumes, Keeps}
use Rattle.server.specs.inner.Closing.{TakesUpTo}

-- before the first one nothing is taken
pub takes_nothing : (a : Option (List ℕ)) → TakesUpTo 0 a a
takes_nothing a = ([], Consumes-nil a, omega arith)

-- one that gives bytes
pub takes_more : (a b c : Option (List ℕ)) (piece : List ℕ) (n reads : ℕ) → n ≤ 65536 → TakesUpTo (65536 * reads) a b → Consumes b c (take n piece)
    → TakesUpTo (65536 * (reads + 1)) a c
takes_more a b c piece n reads fits before taken =
    let few : length before.0 ≤ 65536 * reads = before.2 in
    let joined : length (before.0 ++ take n piece) ≤ 65536 * (reads + 1) = omega (arith, length-append before.0 (take n piece), length-take {A = ℕ}) in
    (before.0 ++ take n piece, Consumes-trans a b c before.0 (take n piece) before.1 taken, joined)

-- one that fails
pub takes_no_more : (a b c : Option (List ℕ)) (reads : ℕ) → TakesUpTo (65536 * reads) a b → Keeps b c → TakesUpTo (65536 * (reads + 1)) a c
takes_no_more a b c reads before kept =
    let few : length before.0 ≤ 65536 * reads = before.2 in
    (before.0, Consumes-kept a b c before.0 before.1 kept, omega arith)
