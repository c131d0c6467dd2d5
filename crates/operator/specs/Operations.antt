-- What a request of the operator's does to a registry, and what it is answered.
use Rattle.std.specs.Prelude.{◌≡◌, ◌⊎◌, ℕ, true, List, [], ◌++◌, Option, Some, None}
use Rattle.std.specs.Io.KnownBytes.{Appends}
use Rattle.eppcommands.specs.Order.{order_in}
use Rattle.frames.specs.Clocks.{Tells}
use Rattle.accounts.specs.declared.line.Line.{Line}
use Rattle.model.specs.Lapse.{lapsed}
use Rattle.model.specs.Registry.{account_of}
use Rattle.operator.specs.Answers.{refusal, refusal_outcome, registry_figures, response_of_kind}
use Rattle.operator.specs.Heard.{IsHeard, IsUnheard}
use Rattle.operator.specs.declared.answer.Kind.TheVariants as kinds
use Rattle.operator.specs.declared.answer.Outcome.{Outcome}
use Rattle.operator.specs.declared.answer.Outcome.TheVariants as outcomes
use Rattle.operator.specs.declared.hearing.Unheard.{Unheard}
use Rattle.operator.specs.declared.hearing.Unheard.TheVariants.{Headless, Lost}
use Rattle.operator.specs.declared.request.Asked.{Asked}
use Rattle.operator.specs.declared.request.Asked.TheVariants.{Order, Zone, Metrics, Statement, Refused}
use Rattle.operator.specs.declared.serving.RequestEnd.{RequestEnd}
use Rattle.operator.specs.declared.serving.RequestEnd.TheVariants as ends
use Rattle.policy.specs.Rules.{PolicyRules}
use Rattle.protocol.specs.declared.code.Code.{Code}
use Rattle.protocol.specs.declared.code.Code.TheVariants.{Completed}
use Rattle.registry.specs.Execution.{IsUnchanged, ShowsBacklog}
use Rattle.registry.specs.declared.backlog.Backlog.{Backlog}
use Rattle.script.specs.declared.exit.Exit.{Exit}
use Rattle.script.specs.declared.exit.Exit.TheVariants as exits
use Rattle.script.specs.Deposits.{IsAnsweredBy}
use Rattle.script.specs.Orders.{IsOrdered, PrintsAnswer}
use Rattle.server.specs.Http.{Passes}
use Rattle.server.specs.ZoneExport.{zone_at}
use Rattle.statements.specs.Tables.{statement}
use Rattle.streams.specs.Moves.{AppendsLess}
use Rattle.statements.specs.declared.extract.Extract.{Extract}
use Rattle.books.specs.Book.{BookState}

-- ---- orders

-- 1000 is 200, and an order that the rules refuse is 409 (RFC 9110, 15.5.10)
abbrev pub outcome_of_code : Code → Outcome
outcome_of_code Completed = outcomes.Done
outcome_of_code _ = outcomes.Conflict

-- an order that wasn't answered: what is no order is 400 (RFC 9110, 15.5.1), and all else 500 (RFC 9110, 15.6.1)
abbrev pub outcome_of_exit : Exit → Outcome
outcome_of_exit (exits.Script n) = outcomes.Malformed
outcome_of_exit _ = outcomes.Failed

-- the body is an order that takes its step at the moment, and the text is what `tldreg order` prints of it
abbrev pub IsAnsweredOrder : PolicyRules → List ℕ → ℕ → Outcome → List ℕ → BookState → BookState → Type 0
IsAnsweredOrder p body moment outcome text old new =
    IsOrdered body (λ request. (code : Code) × (outcome ≡ outcome_of_code code) × PrintsAnswer p request moment code old new (Some []) (Some text))

-- the body is no order, and nothing is changed
abbrev pub IsMalformedOrder : List ℕ → Outcome → BookState → BookState → Type 0
IsMalformedOrder body outcome old new =
    (outcome ≡ outcomes.Malformed) × (order_in body ≡ None) × IsUnchanged old new

-- the registry gave up, or there was no memory: nothing is changed, or the order took its step
abbrev pub IsFailedOrder : PolicyRules → List ℕ → ℕ → Outcome → BookState → BookState → Type 0
IsFailedOrder p body moment outcome old new =
    (outcome ≡ outcomes.Failed)
    × (IsUnchanged old new ⊎ IsOrdered body (λ request.
    (code : Code) × (lapsed : Option ℕ) × IsAnsweredBy p request moment code lapsed old new))

-- what becomes of a body, and its answer
abbrev pub Orders : PolicyRules → List ℕ → ℕ → Outcome → List ℕ → BookState → BookState → Type 0
Orders p body moment outcome text old new =
    IsAnsweredOrder p body moment outcome text old new
    ⊎ (IsMalformedOrder body outcome old new ⊎ IsFailedOrder p body moment outcome old new)

-- ---- what is sent

-- The answer goes out, or a beginning of it that isn't the whole. Where there is no memory for it, nothing does.
abbrev pub IsSent : List ℕ → (before after : Option (List ℕ)) → RequestEnd → Type 0
IsSent answer before after ends.Answered = Appends before after answer
IsSent answer before after ends.Cut = AppendsLess before after answer
IsSent answer before after ends.Unanswered = Appends before after []

-- ---- requests

-- an order at one moment of the clock, which is kept before its answer goes out
abbrev pub DoesOrder : PolicyRules → List ℕ → (clock later : Option (List ℕ)) → (old new : BookState)
    → (before after : Option (List ℕ)) → RequestEnd → Type 0
DoesOrder p body clock later old new before after end =
    (moment : ℕ) × Tells clock later moment
    × (outcome : Outcome) × (text : List ℕ) × Orders p body moment outcome text old new
    × IsSent (response_of_kind outcome kinds.Json text) before after end

-- the text of the zone at a moment, if nothing wrong was taken from what keeps the book
abbrev pub IsZone : PolicyRules → ℕ → (old new : BookState) → List ℕ → Type 0
IsZone p moment old new text = new.is_clean ≡ true → text ≡ zone_at p moment old.content.registry

-- A zone at one moment, which changes nothing but that time passes. Where the registry gave up, or there was no
-- memory, that is said.
abbrev pub DoesZone : PolicyRules → (clock later : Option (List ℕ)) → (old new : BookState)
    → (before after : Option (List ℕ)) → RequestEnd → Type 0
DoesZone p clock later old new before after end =
    (moment : ℕ) × Tells clock later moment × Passes p moment old new
    × (((text : List ℕ) × IsZone p moment old new text × IsSent (response_of_kind outcomes.Done kinds.Dns text) before after end)
    ⊎ IsSent (refusal outcomes.Failed) before after end)

-- ---- statements

-- the lines of a registrar's account at a moment: what is due by then has lapsed
abbrev pub lines_at : PolicyRules → ℕ → ℕ → BookState → List Line
lines_at p r moment old = (account_of r (lapsed p moment old.content.registry)).lines

-- the statement of these lines, if nothing wrong was taken from what keeps the book
abbrev pub IsStatement : PolicyRules → Extract → ℕ → (old new : BookState) → List ℕ → Type 0
IsStatement p x moment old new text =
    new.is_clean ≡ true → text ≡ statement x.bounds (lines_at p x.registrar moment old)

-- A statement at one moment, which changes nothing but that time passes. Where the registry gave up, or there was
-- no memory, that is said.
abbrev pub DoesStatement : PolicyRules → Extract → (clock later : Option (List ℕ)) → (old new : BookState)
    → (before after : Option (List ℕ)) → RequestEnd → Type 0
DoesStatement p x clock later old new before after end =
    (moment : ℕ) × Tells clock later moment × Passes p moment old new
    × (((text : List ℕ) × IsStatement p x moment old new text × IsSent (response_of_kind outcomes.Done kinds.Csv text) before after end)
    ⊎ IsSent (refusal outcomes.Failed) before after end)

-- ---- figures

-- some figures, with those of a registry at their end
abbrev pub IsFigures : Backlog → (before after : Option (List ℕ)) → RequestEnd → Type 0
IsFigures backlog before after end =
    ((text : List ℕ) × IsSent (response_of_kind outcomes.Done kinds.Prometheus (text ++ registry_figures backlog)) before after end)
    ⊎ IsSent (refusal outcomes.Failed) before after end

-- figures with those of the registry at one moment, or that there are none; the registry stays as it is
abbrev pub DoesMetrics : PolicyRules → (clock later : Option (List ℕ)) → (old new : BookState)
    → (before after : Option (List ℕ)) → RequestEnd → Type 0
DoesMetrics p clock later old new before after end =
    (moment : ℕ) × Tells clock later moment × IsUnchanged old new
    × (((backlog : Backlog) × ShowsBacklog p moment backlog old new × IsFigures backlog before after end)
    ⊎ IsSent (refusal outcomes.Failed) before after end)

-- ---- all that is asked

-- What is done for what is asked; what is refused does nothing.
abbrev pub DoesAsked : PolicyRules → Asked → List ℕ → (clock later : Option (List ℕ)) → (old new : BookState)
    → (before after : Option (List ℕ)) → RequestEnd → Type 0
DoesAsked p (Order n) body clock later old new before after end = DoesOrder p body clock later old new before after end
DoesAsked p Zone body clock later old new before after end = DoesZone p clock later old new before after end
DoesAsked p Metrics body clock later old new before after end = DoesMetrics p clock later old new before after end
DoesAsked p (Statement extract) body clock later old new before after end = DoesStatement p extract clock later old new before after end
DoesAsked p (Refused why) body clock later old new before after end =
    (later ≡ clock) × (new ≡ old) × IsSent (refusal (refusal_outcome why)) before after end

-- what is answered where none is heard
abbrev pub AnswersUnheard : Unheard → (before after : Option (List ℕ)) → RequestEnd → Type 0
AnswersUnheard Headless before after end = IsSent (refusal outcomes.Malformed) before after end
AnswersUnheard Lost before after end = (end ≡ ends.Unanswered) × Appends before after []

-- A request: what is done is what its head asks for, of who has the token. Where none is heard nothing is done.
abbrev pub Operates : PolicyRules → List ℕ → (input clock : Option (List ℕ)) → BookState
    → (before after later : Option (List ℕ)) → BookState → RequestEnd → Type 0
Operates p credentials input clock old before after later new end =
    ((later ≡ clock) × (new ≡ old) × (why : Unheard) × IsUnheard input why × AnswersUnheard why before after end)
    ⊎ ((asked : Asked) × (body : List ℕ) × IsHeard p credentials input asked body
    × DoesAsked p asked body clock later old new before after end)
