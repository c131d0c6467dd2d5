use Rattle.std.proofs.{Common.{inr, rules, refl}, lemmas.Result.err_from_is_err_and}
use Rattle.tldreg.proofs.AskingLemmas.{all_asked, nothing_asked, too_much_asked}
use Rattle.tldreg.proofs.command_line.asked_of.Goals as goal

pub returns-in_err-task : goal.returns-in_err-task
returns-in_err-task c =
    let p = err_from_is_err_and c.from_residual-in_err-task.result c.from_residual-in_err-task.ensures.1 in
    rw (p.1, p.2) (inr (c.in_err-task.ensures.0, inr (nothing_asked _ c.in_ok-plain.field-0 c.in_ok-plain.ensures (search rules))))

pub returns-then-not-is_among : goal.returns-then-not-is_among
returns-then-not-is_among c = inr (refl, inr (too_much_asked _ c.in_ok-plain.field-0 c.in_ok-plain.ensures c.in_ok-task.task (search rules) (search rules)))

pub returns : goal.returns
returns c = all_asked _ c.in_ok-plain.field-0 c.in_ok-plain.ensures c.in_ok-task.task (search rules) (search rules)
