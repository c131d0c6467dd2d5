use Rattle.std.proofs.Common.{length, ap, subst, sym, ◌∙◌}
use Rattle.policy.specs.{declared.schedule.Schedule.Schedule, Terms.DaysContinue}
use Rattle.policy.proofs.ScheduleLemmas.{continues-itself, days-continue-Decides, same-schedule}
use Rattle.policy.proofs.schedule.Schedule.is_same.Goals as goal

pub returns-then-these-others-clause-same : goal.returns-then-these-others-clause-same
returns-then-these-others-clause-same c = λ yes.
    let many = ap length (sym c.as_slice-these.ensures) ∙ c.if-these-others.true ∙ ap length c.as_slice-others.ensures in
    same-schedule c.first.result c.args.self.now c.args.other.now many ((days-continue-Decides c.first.result c.args.self.now c.args.other.now).0 (sym c.continues.ensures ∙ yes))

pub returns-then-these-others-clause-itself : goal.returns-then-these-others-clause-itself
returns-then-these-others-clause-itself c = λ same.
    let clock = c.first.result in
    let continues = subst (λ (s : Schedule). DaysContinue clock c.args.self.now s) same (continues-itself clock c.args.self.now) in
    c.continues.ensures ∙ (days-continue-Decides clock c.args.self.now c.args.other.now).1 continues
