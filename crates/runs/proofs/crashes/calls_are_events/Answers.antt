use Rattle.std.proofs.Common.{ap}
use Rattle.registry.specs.{Crashes.Makes, Execution.{IsGreetingStep, IsOrderStep, IsSettlement, IsStep}}
use Rattle.runs.specs.Crashes.{asking, settling}
use Rattle.isolation.specs.Runs.{code, command, date, dated, order, reply}
use Rattle.runs.proofs.CrashLemmas.{carried-out, refused-opening, stepped, taken-leave-found}
use Rattle.runs.proofs.crashes.calls_are_events.Goals as goal

pub returns : goal.returns
returns c = record {
  commands = λ p r command-of moment result old new step done.
      carried-out p (asking p moment (command r command-of)) (Makes (IsStep p r command-of moment)) result old new
      (λ before after under it. (under, ((reply it.0.0, record { answered = ap reply it.0.1.answered; left = it.0.1.left }), it.1)))
      (stepped (IsStep p r command-of moment) result old new step done.terms) done;
  orders = λ p o moment result old new step done.
      carried-out p (asking p moment (order o)) (Makes (IsOrderStep p o moment)) result old new
      (λ before after under it. (under, ((code it.0.0, record { answered = ap code it.0.1.answered; left = it.0.1.left }), it.1)))
      (stepped (IsOrderStep p o moment) result old new step done.terms) done;
  greetings = λ p moment result old new step done.
      carried-out p (asking p moment date) (Makes (IsGreetingStep p moment)) result old new
      (λ before after under it. (under, ((dated it.0.0, record { answered = ap dated it.0.1.dated; left = it.0.1.left }), it.1)))
      (stepped (IsGreetingStep p moment) result old new step done.terms) done;
  settlements = λ p moment at_most result old new step done.
      carried-out p (settling p moment at_most) (Makes (IsSettlement p moment at_most)) result old new
      (λ before after under it. (under, it))
      (stepped (IsSettlement p moment at_most) result old new step done.terms) done;
  openings = λ p old new opens itself follows. (follows, λ clean. (opens.fits clean, opens.content clean), itself);
  refusals = λ p fault old new closed refuses leaves follows. refused-opening fault p old new closed refuses leaves follows;
  taken = taken-leave-found;
}
