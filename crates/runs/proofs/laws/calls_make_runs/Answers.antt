use Rattle.std.proofs.Common.{ap}
use Rattle.isolation.specs.Runs.{code, dated, reply}
use Rattle.runs.proofs.laws.calls_make_runs.Goals as goal

pub returns : goal.returns
returns c = record {
  commands = λ p r command moment before after a step. record { answered = ap reply step.answered; left = step.left };
  orders = λ p o moment before after a step. record { answered = ap code step.answered; left = step.left };
  greetings = λ p moment before after a step. record { answered = ap dated step.dated; left = step.left };
}
