use Rattle.std.proofs.Common.{ℕ, ◌≤◌, List, length, rules}
use Rattle.server.proofs.HttpLemmas.{head_of}
use Rattle.server.proofs.http.read_request.Goals as goal

pub returns : goal.returns
returns g c =
    let n = c.in-Ok-read_to_decide.count in
    let read : List ℕ = c.read_to_decide.new.buffer in
    let fits : n ≤ length read = search rules in
    let room : n ≤ c.in-Ok.buffer.len = search rules in
    rw (c.truncate.ensures.items, head_of n c.in-Ok.buffer.len read _ fits room) (search rules)
