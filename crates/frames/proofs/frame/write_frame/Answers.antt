use Rattle.std.proofs.{Common.{ℕ, ◌+◌, length, List}, lemmas.Result.on_err_weaker}
use Rattle.std.specs.Int.{w32, to_be_bytes}
use Rattle.streams.proofs.MoveLemmas.{less_of_back, less_of_front, OnErr-from}
use Rattle.frames.proofs.frame.write_frame.Goals as goal

pub returns-in_err-write_whole-clause-err : goal.returns-in_err-write_whole-clause-err
returns-in_err-write_whole-clause-err g c =
    let header : List ℕ = to_be_bytes w32 (length c.args.payload.now + 4) in
    let sent = rw c.to_be_bytes.ensures at c.in_err-write_whole.ensures.err in
    OnErr-from c.from_residual.result (less_of_front _ _ header c.args.payload.now sent)

pub returns-clause-err : goal.returns-clause-err
returns-clause-err g c =
    let header : List ℕ = to_be_bytes w32 (length c.args.payload.now + 4) in
    let sent = rw c.to_be_bytes.ensures at c.in_ok-write_whole.ensures.ok in
    on_err_weaker c.write_whole-2.result (λ p. less_of_back _ _ _ header c.args.payload.now sent p) c.write_whole-2.ensures.err
