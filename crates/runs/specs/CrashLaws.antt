-- The law of crashes.
use Rattle.std.specs.Prelude.{◌≡◌, ℕ, true, false, List, [], ◌∷◌, ◌++◌, Some, Result, Ok, Err, IfOk, IfErr, OnOk}
use Rattle.model.specs.Registry.{Registry}
use Rattle.policy.specs.Rules.{PolicyRules}
use Rattle.policy.specs.Terms.{terms_of}
use Rattle.protocol.specs.declared.code.Code.{Code}
use Rattle.protocol.specs.declared.command.Command.{Command}
use Rattle.protocol.specs.declared.order.Order.{Order}
use Rattle.protocol.specs.declared.reply.Reply.{Reply}
use Rattle.registry.specs.declared.fault.Fault.{Fault}
use Rattle.registry.specs.declared.fault.Fault.TheVariants as faults
use Rattle.registry.specs.declared.fault.OpenFault.{OpenFault}
use Rattle.registry.specs.declared.fault.OpenFault.TheVariants as refusals
use Rattle.registry.specs.Crashes.{Makes, Outlives, RefusedTo}
use Rattle.registry.specs.Execution.{Fails, Greets, IsGreetingStep, IsOrderStep, IsSettlement, IsStep, OrderSteps, SameTerms, Settles, Steps}
use Rattle.registry.specs.Faces.{IsLookUp, LooksUp}
use Rattle.registry.specs.Opening.{Opens, Refuses}
use Rattle.runs.specs.Crashes.{Call, Event, ComeTo, Happen, Happened, Happens, answered, asking, crash, gave_up, opening, refused, settling}
use Rattle.isolation.specs.Public.{IsPublic}
use Rattle.isolation.specs.Runs.{command, date, inspection, look_up, order}
use Rattle.books.specs.Book.{BookState, Follows, LeavesItself, Stored, may_leave}
use Rattle.books.specs.Reopening.{IsTakenUp, LeavesFound}
use Rattle.states.specs.States.{Remains}

-- Whatever happens to a book that was taken up: what it holds is what calls made of what it held at first, all that
-- answered, in their order, and of the others some that a crash showed; and so is what a crash leaves of it then.
abbrev pub CrashesLeaveRuns : Type 0
CrashesLeaveRuns =
    (events : List Event) (old new : BookState) → IsTakenUp old → Happen events old new
    → ((left : Remains Stored) → may_leave new left → ComeTo (events ++ crash ∷ []) old.content left.content) × (new.is_clean ≡ true → ComeTo events old.content new.content)

-- The same, where it isn't known which of what might be left was found.
abbrev pub CrashesLeftRuns : Type 0
CrashesLeftRuns =
    (events : List Event) (old new : BookState) → IsTakenUp old → Happened events old new
    → ((left : Remains Stored) → may_leave new left → ∥ ComeTo (events ++ crash ∷ []) old.content left.content ∥₁) × (new.is_clean ≡ true → ∥ ComeTo events old.content new.content ∥₁)

-- Events after events are events.
abbrev pub EventsGoOn : Type 0
EventsGoOn =
    (first later : List Event) (old mid new : BookState) → Happened first old mid
    → Happened later mid new → Happened (first ++ later) old new

-- ---- the calls of a registry are such events, by their contracts

-- by what was answered
abbrev pub event_of : {A : Type 0} → Result A Fault → Call → Event
event_of (Ok it) call = answered call
event_of (Err faults.Memory) call = gave_up call
event_of (Err faults.Store) call = gave_up call
event_of (Err faults.Moment) call = refused call

abbrev pub refusal_event : OpenFault → Call → Event
refusal_event refusals.Policy call = refused call
refusal_event refusals.Schema call = refused call
refusal_event refusals.Memory call = gave_up call
refusal_event refusals.Store call = gave_up call

-- What each call promises of the book that its registry has under a policy, besides its step.
pub record IsCarriedOut {A : Type 0} (p : PolicyRules) (result : Result A Fault) (makes : Stored → Stored → Type 0) (old new : BookState) : Type 0 where
  pub kept : old.is_clean ≡ true → old.content.terms ≡ Some (terms_of p)
  pub terms : OnOk result (SameTerms old new)
  pub fault : IfErr result (λ fault. Fails fault old new)
  pub crash : Outlives result makes old new
  pub follows : Follows old new

abbrev pub CommandsAreEvents : Type 0
CommandsAreEvents =
    (p : PolicyRules) (r : ℕ) (c : Command) (moment : ℕ) (result : Result Reply Fault) (old new : BookState)
    → IfOk result (λ reply. Steps p r c moment reply old new)
    → IsCarriedOut p result (Makes (IsStep p r c moment)) old new
    → Happens (event_of result (asking p moment (command r c))) old new

abbrev pub OrdersAreEvents : Type 0
OrdersAreEvents =
    (p : PolicyRules) (o : Order) (moment : ℕ) (result : Result Code Fault) (old new : BookState)
    → IfOk result (λ code. OrderSteps p o moment code old new)
    → IsCarriedOut p result (Makes (IsOrderStep p o moment)) old new
    → Happens (event_of result (asking p moment (order o))) old new

abbrev pub GreetingsAreEvents : Type 0
GreetingsAreEvents =
    (p : PolicyRules) (moment : ℕ) (result : Result ℕ Fault) (old new : BookState)
    → IfOk result (λ it. Greets p moment it old new)
    → IsCarriedOut p result (Makes (IsGreetingStep p moment)) old new
    → Happens (event_of result (asking p moment date)) old new

-- where what is found is read off the public part
abbrev pub LookUpsAreEvents : Type 0 → Type 0
LookUpsAreEvents X =
    (p : PolicyRules) (find : Registry → X) (lapsing : ℕ → Registry → Registry) (moment : ℕ)
    (result : Result X Fault) (old new : BookState) → IsPublic p find
    → IfOk result (λ found. LooksUp p find lapsing moment found old new)
    → IsCarriedOut p result (Makes (IsLookUp p find lapsing moment)) old new
    → Happens (event_of result (asking p moment look_up)) old new

-- whatever is found, as the lines of an account
abbrev pub InspectionsAreEvents : Type 0 → Type 0
InspectionsAreEvents X =
    (p : PolicyRules) (find : Registry → X) (lapsing : ℕ → Registry → Registry) (moment : ℕ)
    (result : Result X Fault) (old new : BookState)
    → IfOk result (λ found. LooksUp p find lapsing moment found old new)
    → IsCarriedOut p result (Makes (IsLookUp p find lapsing moment)) old new
    → Happens (event_of result (asking p moment inspection)) old new

abbrev pub SettlementsAreEvents : Type 0
SettlementsAreEvents =
    (p : PolicyRules) (moment at_most : ℕ) (result : Result ℕ Fault) (old new : BookState)
    → IfOk result (λ done. Settles p moment at_most done old new)
    → IsCarriedOut p result (Makes (IsSettlement p moment at_most)) old new
    → Happens (event_of result (settling p moment at_most)) old new

-- a book that is opened
abbrev pub OpeningsAreEvents : Type 0
OpeningsAreEvents =
    (p : PolicyRules) (old new : BookState) → Opens p old new → LeavesItself new → Follows old new
    → Happens (answered (opening p)) old new

-- one that isn't
abbrev pub RefusedOpeningsAreEvents : Type 0
RefusedOpeningsAreEvents =
    (p : PolicyRules) (fault : OpenFault) (old new : BookState) → old.is_open ≡ false
    → Refuses fault p old new → RefusedTo fault p old new → Follows old new
    → Happens (refusal_event fault (opening p)) old new

-- a book that is taken up, by what taking it up promises
abbrev pub TakenLeaveFound : Type 0
TakenLeaveFound =
    (s : BookState) → (s.is_honest ≡ true → s.is_clean ≡ true) → (s.is_clean ≡ true → s.crash_leaves ≡ record { readiness = s.readiness; content = s.content } ∷ [])
    → LeavesFound s
