-- The operator's orders, given alone: how one is answered, and how one ends that isn't.
use Rattle.std.specs.Prelude.{◌≡◌, ℕ, ◌⊎◌, ◌++◌, List, Option, Some, None, codes}
use Rattle.std.specs.Io.KnownBytes.{Keeps}
use Rattle.eppreplies.specs.Answer.{answer_text}
use Rattle.policy.specs.Rules.{PolicyRules}
use Rattle.protocol.specs.declared.code.Code.{Code}
use Rattle.protocol.specs.declared.code.Code.TheVariants.{Completed}
use Rattle.protocol.specs.declared.order.OperatorRequest.{OperatorRequest}
use Rattle.protocol.specs.declared.order.OperatorRequest.TheVariants as requests
use Rattle.registry.specs.Execution.{Fails, IsUnchanged, OrderSteps, Settles}
use Rattle.script.specs.declared.exit.Exit.{Exit}
use Rattle.script.specs.declared.exit.Exit.TheVariants as exits
use Rattle.books.specs.Book.{BookState}
use Rattle.streams.specs.Moves.{AppendsBeginning}

-- a fault of the output, or of memory
abbrev pub IsOfMachine : Exit → Type 0
IsOfMachine exits.File = Unit {0}
IsOfMachine exits.Memory = Unit {0}
IsOfMachine _ = ⊥

-- an order takes its step and is answered by a code, and a settlement also by how many objects lapsed
abbrev pub IsAnsweredBy : PolicyRules → OperatorRequest → ℕ → Code → (lapsed : Option ℕ)
    → (old new : BookState) → Type 0
IsAnsweredBy p (requests.Order order) moment code lapsed old new =
    OrderSteps p order moment code old new × (lapsed ≡ None)
IsAnsweredBy p (requests.Settle at_most) moment code lapsed old new =
    (code ≡ Completed)
    × (done : ℕ) × Settles p moment at_most done old new × (lapsed ≡ Some done)

-- an order or a settlement took its step, and a beginning of its answer is printed
unfoldable pub PrintsBeginning : PolicyRules → OperatorRequest → ℕ → (old new : BookState)
    → (before after : Option (List ℕ)) → Type 0
PrintsBeginning p request moment old new before after =
    (code : Code) × (lapsed : Option ℕ) × IsAnsweredBy p request moment code lapsed old new
    × AppendsBeginning before after (answer_text code lapsed ++ codes "\n")

-- How what is to be done ends that isn't answered: the registry gave up, and nothing is printed; or it was
-- done, but the output failed, or memory did; or memory failed before.
abbrev pub EndsUnprinted : PolicyRules → OperatorRequest → ℕ → (old new : BookState)
    → (before after : Option (List ℕ)) → Exit → Type 0
EndsUnprinted p request moment old new before after (exits.Registry fault) =
    Fails fault old new × Keeps before after
EndsUnprinted p request moment old new before after exits.File =
    PrintsBeginning p request moment old new before after
EndsUnprinted p request moment old new before after exits.Memory =
    (IsUnchanged old new × Keeps before after) ⊎ PrintsBeginning p request moment old new before after
EndsUnprinted p request moment old new before after _ = ⊥
