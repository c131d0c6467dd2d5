-- What a look at what waits, a look-up, and an order that is given up leave.
use Rattle.std.proofs.Common.{◌⊎◌, ℕ, List, Option, inl, inr, refl}
use Rattle.std.specs.Prelude.{Result, Ok, Err, IfErr, IfOk}
use Rattle.operator.specs.Operations.{IsFailedOrder, IsMalformedOrder, outcome_of_exit}
use Rattle.policy.specs.Rules.{PolicyRules}
use Rattle.protocol.specs.declared.{code.Code.Code, order.OperatorRequest.OperatorRequest}
use Rattle.model.specs.Registry.{Registry}
use Rattle.registry.specs.{Calls.StepKeeps, Execution.{Fails, IsUnchanged, ShowsBacklog}, declared.backlog.Backlog.Backlog}
use Rattle.registry.specs.declared.fault.Fault.{Fault}
use Rattle.script.specs.{Deposits.{IsAnsweredBy, PrintsBeginning}, Orders.EndsUnanswered, declared.exit.Exit.Exit}
use Rattle.script.specs.declared.exit.Exit.TheVariants as exits
use Rattle.server.proofs.PassingLemmas.{unchanged}
use Rattle.books.specs.Book.{BookState, Stored}

-- a look at what waits changes nothing
pub unchanged_by : (p : PolicyRules) (moment : ℕ) (makes : Stored → Stored → Type 0) (result : Result Backlog Fault) (after : PolicyRules) (old new : BookState) → IfOk result (λ found. ShowsBacklog p moment found old new)
    → StepKeeps p makes result after old new → IfErr result (λ fault. Fails fault old new) → IsUnchanged old new
unchanged_by p moment makes (Ok found) after old new shows keeps fails =
    record { content = λ clean. λ i. record { registry = (shows clean).left i; terms = keeps.terms clean i } }
unchanged_by p moment makes (Err fault) after old new shows keeps fails = unchanged fault old new fails

carried : (p : PolicyRules) (request : OperatorRequest) (moment : ℕ) (old new : BookState) (before after : Option (List ℕ)) → PrintsBeginning p request moment old new before after
    → (code : Code) × (lapsed : Option ℕ) × IsAnsweredBy p request moment code lapsed old new
unfolding PrintsBeginning
carried p request moment old new before after (code, lapsed, by, began) = (code, lapsed, by)

-- an order that isn't answered is no order, or failed
pub unanswered : (p : PolicyRules) (body : List ℕ) (moment : ℕ) (old new : BookState) (before after : Option (List ℕ)) (exit : Exit) → EndsUnanswered p body moment old new before after exit
    → IsMalformedOrder body (outcome_of_exit exit) old new ⊎ IsFailedOrder p body moment (outcome_of_exit exit) old new
unanswered p body moment old new before after (exits.Script n) (inl (one, none, same, kept)) = inl (refl, none, same)
unanswered p body moment old new before after (exits.Script n) (inr (request, is, ends)) = absurd ends
unanswered p body moment old new before after exits.Memory (inl (same, kept)) = inr (refl, inl same)
unanswered p body moment old new before after exits.Memory (inr (request, is, inl (same, kept))) = inr (refl, inl same)
unanswered p body moment old new before after exits.Memory (inr (request, is, inr prints)) = inr (refl, inr (request, is, carried p request moment old new before after prints))
unanswered p body moment old new before after exits.File (inl ends) = absurd ends
unanswered p body moment old new before after exits.File (inr (request, is, prints)) = inr (refl, inr (request, is, carried p request moment old new before after prints))
unanswered p body moment old new before after (exits.Registry fault) (inl ends) = absurd ends
unanswered p body moment old new before after (exits.Registry fault) (inr (request, is, (fails, kept))) = inr (refl, inl (unchanged fault old new fails))
unanswered p body moment old new before after exits.Done (inl ends) = absurd ends
unanswered p body moment old new before after exits.Done (inr (request, is, ends)) = absurd ends
unanswered p body moment old new before after exits.Refused (inl ends) = absurd ends
unanswered p body moment old new before after exits.Refused (inr (request, is, ends)) = absurd ends
unanswered p body moment old new before after exits.Usage (inl ends) = absurd ends
unanswered p body moment old new before after exits.Usage (inr (request, is, ends)) = absurd ends
unanswered p body moment old new before after (exits.Policy fault) (inl ends) = absurd ends
unanswered p body moment old new before after (exits.Policy fault) (inr (request, is, ends)) = absurd ends
unanswered p body moment old new before after (exits.Open fault) (inl ends) = absurd ends
unanswered p body moment old new before after (exits.Open fault) (inr (request, is, ends)) = absurd ends
unanswered p body moment old new before after exits.Network (inl ends) = absurd ends
unanswered p body moment old new before after exits.Network (inr (request, is, ends)) = absurd ends
