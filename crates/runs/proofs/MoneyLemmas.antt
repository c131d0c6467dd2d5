-- Runs leave well formed registries, and their money follows.
use Rattle.std.proofs.Common.{◌≤◌, ℕ, List, [], ◌∷◌, sym, ap, subst, arith}
use Rattle.model.specs.{Lapse.now, Money.MoneyFollows, MoneyLaws.AreCalls, Registry.Registry, WellFormed.{IsRegistry, last_clock}}
use Rattle.model.proofs.MoneyLaws.{money-follows-over}
use Rattle.policy.specs.Rules.{PolicyRules, IsSound}
use Rattle.registry.proofs.CallsKept.{formed, paid}
use Rattle.decisions.proofs.{MoneyLaws.money-lapsed, RegistryLemmas.registry-lapsed}
use Rattle.isolation.specs.Runs.{Answer, IsCall, Question, command, date, inspection, look_up, order}
use Rattle.runs.specs.Runs.{Taken, RunTurn, AreTurns, IsAskedIn, IsRunTurn, call, calls_of, moment_of, settlement}
use Rattle.runs.specs.RunLaws.{RunsKeepMoney, RunsKeepRegistries}

call-keeps : (p : PolicyRules) → IsSound p → (moment : ℕ) → moment ≤ last_clock → (q : Question) (a : Answer) (before after : Registry) → IsAskedIn p q before → IsCall p moment q before after a → IsRegistry p (now p before) → IsRegistry p (now p after)
call-keeps p sound moment early (command r c) a before after asked called is = formed p sound moment early (command r c) (asked.0, asked.1) before after a called is asked.2
call-keeps p sound moment early (order o) a before after asked called is = formed p sound moment early (order o) tt before after a called is
call-keeps p sound moment early date a before after asked called is = formed p sound moment early date tt before after a called is
call-keeps p sound moment early look_up a before after asked called is = formed p sound moment early look_up tt before after a called is
call-keeps p sound moment early inspection a before after asked called is = formed p sound moment early inspection tt before after a called is

turn-keeps : (p : PolicyRules) → IsSound p → (turn : RunTurn) (before after : Registry) → IsRunTurn p turn before after → IsRegistry p (now p before) → IsRegistry p (now p after)
turn-keeps p sound (call moment q a) before after taken is = call-keeps p sound moment taken.0 q a before after taken.1 taken.2 is
turn-keeps p sound (settlement moment at_most done) before after taken is = subst (IsRegistry p) (sym taken.1.unnoticed) (registry-lapsed p moment before taken.0 is)

pub runs-keep-registries : RunsKeepRegistries
runs-keep-registries p sound [] before after turns is = subst (λ s. IsRegistry p (now p s)) (sym turns) is
runs-keep-registries p sound (taken ∷ others) before after turns is =
    runs-keep-registries p sound others taken.left after turns.1 (turn-keeps p sound taken.turn before taken.left turns.0 is)

-- ---- money

call-follows : (p : PolicyRules) → IsSound p → (moment : ℕ) → moment ≤ last_clock → (q : Question) (a : Answer) (before after : Registry) → IsCall p moment q before after a → IsRegistry p (now p before) → MoneyFollows p moment (now p before) (now p after)
call-follows p sound moment early (command r c) a before after called is = paid p sound moment early (command r c) before after a called is
call-follows p sound moment early (order o) a before after called is = paid p sound moment early (order o) before after a called
call-follows p sound moment early date a before after called is = paid p sound moment early date before after a called
call-follows p sound moment early look_up a before after called is = paid p sound moment early look_up before after a called
call-follows p sound moment early inspection a before after called is = paid p sound moment early inspection before after a called

turn-early : (p : PolicyRules) (turn : RunTurn) (before after : Registry) → IsRunTurn p turn before after → moment_of turn ≤ last_clock
turn-early p (call moment q a) before after taken = taken.0
turn-early p (settlement moment at_most done) before after taken = taken.0

turn-follows : (p : PolicyRules) → IsSound p → (turn : RunTurn) (before after : Registry) → IsRunTurn p turn before after → IsRegistry p (now p before) → MoneyFollows p (moment_of turn) (now p before) (now p after)
turn-follows p sound (call moment q a) before after taken is = call-follows p sound moment taken.0 q a before after taken.2 is
turn-follows p sound (settlement moment at_most done) before after taken is = subst (MoneyFollows p moment (now p before)) (sym taken.1.unnoticed) (money-lapsed p moment before)

run-calls : (p : PolicyRules) → IsSound p → (turns : List Taken) (before after : Registry) → AreTurns p turns before after → IsRegistry p (now p before) → AreCalls p last_clock (calls_of p turns) (now p before) (now p after)
run-calls p sound [] before after turns is = ap (now p) turns
run-calls p sound (taken ∷ others) before after turns is = (
  omega (arith, turn-early p taken.turn before taken.left turns.0, is.clock),
  turn-follows p sound taken.turn before taken.left turns.0 is,
  run-calls p sound others taken.left after turns.1 (turn-keeps p sound taken.turn before taken.left turns.0 is),
)

pub runs-keep-money : RunsKeepMoney
runs-keep-money p sound turns before after taken is =
    let calls : AreCalls p last_clock (calls_of p turns) (now p before) (now p after) = run-calls p sound turns before after taken is in
    record { each = calls; together = money-follows-over p last_clock (calls_of p turns) (now p before) (now p after) calls }
