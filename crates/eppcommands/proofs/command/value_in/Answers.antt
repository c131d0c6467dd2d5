use Rattle.std.proofs.Common.{◌≡◌, true, false, sym, ◌∙◌}
use Rattle.serde_json.specs.{Errors.IsMemory, View.view}
use Rattle.eppcommands.proofs.Payloads.{well_read, not_read}
use Rattle.eppcommands.proofs.command.value_in.Goals as goal

pub returns-in-Ok : goal.returns-in-Ok
returns-in-Ok c =
    let h = c.in-Ok.ensures.ok in
    sym (well_read c.args.payload.now (view c.in-Ok.value) h.0 h.1)

pub returns-in-Err-2 : goal.returns-in-Err-2
returns-in-Err-2 c =
    let other = λ (m : IsMemory c.in-Err.error). let yes : true ≡ false = sym (c.is_memory.ensures.1 m) ∙ c.if-is_memory.false in absurd (cc) in
    sym (not_read c.args.payload.now (c.in-Err.ensures.err other))
