-- Each call of the registry that comes in time answers a question by the rules, where it answers, and keeps what every
-- call does.
use Rattle.std.proofs.Common.{◌≡◌, ℕ, ◌≤◌, max, true, false, nat_lt, Result, Ok, Err, IfOk, Some, refl, sym, ap, ◌∙◌, arith}
use Rattle.std.proofs.lemmas.Bool.Decides.{nat_tests}
use Rattle.registry.proofs.Words.{BookState, Fault, IsGreetingStep, IsLookUp, IsOrderStep, IsRegistrar, IsSettlement, IsSound, IsStep, lapsed}
use Rattle.registry.proofs.{Words.{lapses-on, last_clock, LooksUp, Makes, PolicyRules, Registry, terms_of}, CallsKept.call_kept}
use Rattle.decisions.specs.Askable.{CanBeAsked}
use Rattle.decisions.proofs.IsolationLemmas.{isolated}
use Rattle.isolation.specs.{Public.public_part, Runs.{code, command, date, dated, look_up, order, reply, shown}}
use Rattle.protocol.specs.declared.{code.Code.Code, command.Command.Command, order.Order.Order, reply.Reply.Reply}
use Rattle.registry.specs.Calls.{CallKeeps, LooksUpKeeping, StepKeeps}
use Rattle.registry.specs.Execution.{Greets, Isolates, OrderSteps, Settles, Steps, last_call}

pub in_time : (moment : ℕ) → nat_lt last_call moment ≡ false → moment ≤ last_clock
in_time moment early = grind (arith, nat_tests, early)

-- a command is a step of the rules, and so it is isolated
pub command_isolated : (p : PolicyRules) (r : ℕ) (c : Command) (moment : ℕ) (result : Result Reply Fault) (old new : BookState) → IsSound p → nat_lt last_call moment ≡ false
    → IfOk result (λ it. Steps p r c moment it old new) → IfOk result (λ it. Isolates p r c moment it old new)
command_isolated p r c moment (Ok it) old new sound early steps = λ clean.
    isolated p sound r c moment (in_time moment early) old.content.registry new.content.registry it (steps clean).answered (steps clean).left
command_isolated p r c moment (Err fault) old new sound early steps = tt

module _ (p : PolicyRules) (moment : ℕ) (after : PolicyRules) (old new : BookState) (sound : IsSound p) (early : nat_lt last_call moment ≡ false)
    (held : old.is_clean ≡ true → old.content.terms ≡ Some (terms_of p)) where
  pub command_kept : (r : ℕ) (c : Command) (result : Result Reply Fault) → IsRegistrar p r → CanBeAsked c → StepKeeps p (Makes (IsStep p r c moment)) result after old new
      → IfOk result (λ it. Steps p r c moment it old new) → CallKeeps p moment (command r c) reply (Makes (IsStep p r c moment)) result after old new
  command_kept r c result place askable keeps steps = call_kept p sound moment (in_time moment early) (command r c) (place, askable) reply (IsStep p r c moment)
      result after old new (λ it step. record { answered = ap reply step.answered; left = step.left }) held keeps steps

  pub order_kept : (o : Order) (result : Result Code Fault) → StepKeeps p (Makes (IsOrderStep p o moment)) result after old new
      → IfOk result (λ it. OrderSteps p o moment it old new) → CallKeeps p moment (order o) code (Makes (IsOrderStep p o moment)) result after old new
  order_kept o result keeps steps = call_kept p sound moment (in_time moment early) (order o) tt code (IsOrderStep p o moment)
      result after old new (λ it step. record { answered = ap code step.answered; left = step.left }) held keeps steps

  pub greeting_kept : (result : Result ℕ Fault) → StepKeeps p (Makes (IsGreetingStep p moment)) result after old new
      → IfOk result (λ it. Greets p moment it old new) → CallKeeps p moment date dated (Makes (IsGreetingStep p moment)) result after old new
  greeting_kept result keeps steps = call_kept p sound moment (in_time moment early) date tt dated (IsGreetingStep p moment)
      result after old new (λ it step. record { answered = ap dated step.dated; left = step.left }) held keeps steps

  pub settlement_kept : (at_most : ℕ) (result : Result ℕ Fault) → StepKeeps p (Makes (IsSettlement p moment at_most)) result after old new
      → IfOk result (λ it. Settles p moment at_most it old new) → LooksUpKeeping p moment (Makes (IsSettlement p moment at_most)) result after old new
  settlement_kept at_most result keeps steps =
      let s : Registry = old.content.registry in
      let u : ℕ = max moment s.clock in
      call_kept p sound moment (in_time moment early) look_up tt (λ it. shown (public_part p (lapsed p moment s))) (IsSettlement p moment at_most)
      result after old new (λ it step. record { answered = refl; left = step.unnoticed ∙ sym (lapses-on p u u (omega arith) s) }) held keeps steps

  pub look_up_kept : {X : Type 0} (find : Registry → X) (lapsing : ℕ → Registry → Registry) (result : Result X Fault) → StepKeeps p (Makes (IsLookUp p find lapsing moment)) result after old new
      → IfOk result (λ it. LooksUp p find lapsing moment it old new) → LooksUpKeeping p moment (Makes (IsLookUp p find lapsing moment)) result after old new
  look_up_kept find lapsing result keeps steps =
      call_kept p sound moment (in_time moment early) look_up tt (λ it. shown (public_part p (lapsed p moment old.content.registry))) (IsLookUp p find lapsing moment)
      result after old new (λ it step. record { answered = refl; left = step.left }) held keeps steps
