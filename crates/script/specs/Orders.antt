-- What the operator sends, given alone.
use Rattle.std.specs.Prelude.{◌≡◌, ◌⊎◌, ◌++◌, ℕ, List, Option, Some, None, codes}
use Rattle.std.specs.Io.KnownBytes.{Appends, Keeps}
use Rattle.eppcommands.specs.Order.{order_in}
use Rattle.eppreplies.specs.Answer.{answer_text}
use Rattle.policy.specs.Rules.{PolicyRules}
use Rattle.protocol.specs.declared.code.Code.{Code}
use Rattle.protocol.specs.declared.order.OperatorRequest.{OperatorRequest}
use Rattle.registry.specs.Execution.{IsUnchanged}
use Rattle.script.specs.declared.exit.Exit.{Exit}
use Rattle.script.specs.declared.exit.Exit.TheVariants as exits
use Rattle.script.specs.Deposits.{EndsUnprinted, IsAnsweredBy}
use Rattle.books.specs.Book.{BookState}

-- the payload is an order or a settlement of which P holds
abbrev pub IsOrdered : List ℕ → (OperatorRequest → Type 0) → Type 0
IsOrdered payload P = (request : OperatorRequest) × (order_in payload ≡ Some request) × P request

-- an order or a settlement takes its step, and its answer is printed
abbrev pub PrintsAnswer : PolicyRules → OperatorRequest → ℕ → Code
    → (old new : BookState) → (before after : Option (List ℕ)) → Type 0
PrintsAnswer p request moment code old new before after =
    (lapsed : Option ℕ) × IsAnsweredBy p request moment code lapsed old new
    × Appends before after (answer_text code lapsed ++ codes "\n")

-- the payload wasn't carried out: it is of another form, or there was no memory to read it
abbrev pub IsNoOrder : List ℕ → (old new : BookState)
    → (before after : Option (List ℕ)) → Exit → Type 0
IsNoOrder payload old new before after (exits.Script n) =
    (n ≡ 1) × (order_in payload ≡ None) × IsUnchanged old new × Keeps before after
IsNoOrder payload old new before after exits.Memory = IsUnchanged old new × Keeps before after
IsNoOrder payload old new before after _ = ⊥

-- How a payload ends that isn't answered: it wasn't carried out, or it was and isn't answered.
abbrev pub EndsUnanswered : PolicyRules → List ℕ → ℕ
    → (old new : BookState) → (before after : Option (List ℕ)) → Exit → Type 0
EndsUnanswered p payload moment old new before after exit =
    IsNoOrder payload old new before after exit
    ⊎ IsOrdered payload (λ request.
    EndsUnprinted p request moment old new before after exit)
