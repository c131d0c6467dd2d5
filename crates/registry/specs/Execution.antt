-- What the calls of the registry leave.
use Rattle.std.specs.Prelude.{◌≡◌, ℕ, max, min, length, take, true, List, [], Option, Some, None}
use Rattle.concerns.specs.DueFor.{due_for}
use Rattle.concerns.specs.Names.{named_by, named_of}
use Rattle.lifecycle.specs.declared.due_object.Due.{Due}
use Rattle.objects.specs.declared.roid.ObjectKind.{ObjectKind}
use Rattle.protocol.specs.declared.order.Order.TheVariants.{Deposit, Status}
use Rattle.protocol.specs.Orders.{name_ordered}
use Rattle.policy.specs.Rules.{PolicyRules}
use Rattle.registry.specs.Lapsing.{dues_lapsed}
use Rattle.registry.specs.declared.backlog.Backlog.{Backlog}
use Rattle.registry.specs.declared.fault.Fault.{Fault}
use Rattle.registry.specs.declared.fault.Fault.TheVariants as faults
use Rattle.registry.specs.declared.command.Prepared.{Prepared}
use Rattle.registry.specs.declared.registry.TheConstants.{LAST_CALL}
use Rattle.decisions.specs.Decisions.{decided}
use Rattle.decisions.specs.Orders.{order_answer, order_effect}
use Rattle.decisions.specs.Steps.{answer, effect, reply_of}
use Rattle.decisions.specs.Isolation.{IsIsolated}
use Rattle.books.specs.Book.{BookState, HasRefused, NoRefusal}
use Rattle.model.specs.DueBy.{due_by}
use Rattle.protocol.specs.declared.code.Code.{Code}
use Rattle.protocol.specs.declared.command.Command.{Command}
use Rattle.facts.specs.declared.facts.Facts.{Facts}
use Rattle.protocol.specs.declared.order.Order.{Order}
use Rattle.protocol.specs.declared.reply.Reply.{Reply}
use Rattle.model.specs.Lapse.{at, lapsed, now}
use Rattle.model.specs.Registry.{Registry}

-- the last moment at which a call is taken: 2099-12-31T23:59:59Z
abbrev pub last_call : ℕ
last_call = LAST_CALL

-- ---- what waits

-- The registry as a call at a moment finds it: the clock is there, and of what is due just this has lapsed.
abbrev pub with_lapsed : PolicyRules → (ℕ → Registry → List Due) → ℕ → Registry → Registry
with_lapsed p due moment s =
    let t = max moment s.clock in dues_lapsed p t (due t (at t s)) (at t s)

-- before a registrar's command, what concerns it lapses
abbrev pub found_by : PolicyRules → ℕ → Command → ℕ → Registry → Registry
found_by p r c moment s = with_lapsed p (due_for p (Some r) (named_by c)) moment s

-- before an order of statuses, what an info of the object concerns; before a deposit nothing
abbrev pub due_at_name : PolicyRules → ObjectKind → Option (List ℕ) → ℕ → Registry → List Due
due_at_name p kind None t s = []
due_at_name p kind (Some name) t s = due_for p None (named_of kind name) t s

abbrev pub due_for_order : PolicyRules → Order → ℕ → Registry → List Due
due_for_order p (Status o) t s = due_at_name p o.kind (name_ordered p.zone o) t s
due_for_order p (Deposit registrar cents) t s = []

-- ---- steps

-- The reply is the rules' answer in the registry at that moment, and what is left is their effect. Of what is
-- due, just what concerns the command has lapsed.
pub record IsStep (p : PolicyRules) (r : ℕ) (c : Command) (moment : ℕ) (before after : Registry) (reply : Reply) : Type 0 where
  pub answered : reply ≡ answer p r c (lapsed p moment before)
  pub left : now p after ≡ now p (effect p r c (lapsed p moment before))
  pub waits : after ≡ effect p r c (found_by p r c moment before)

-- The code is the rules' answer to an order in the registry at that moment, and what is left is the
-- order's effect. Of what is due, just what concerns the order has lapsed.
pub record IsOrderStep (p : PolicyRules) (order : Order) (moment : ℕ) (before after : Registry) (code : Code) : Type 0 where
  pub answered : code ≡ order_answer p order (lapsed p moment before)
  pub left : now p after ≡ now p (order_effect p order (lapsed p moment before))
  pub waits : after ≡ order_effect p order (with_lapsed p (due_for_order p order) moment before)

-- Hello is answered with the registry's clock at that moment, and nothing else is done. Nothing lapses.
pub record IsGreetingStep (p : PolicyRules) (moment : ℕ) (before after : Registry) (date : ℕ) : Type 0 where
  pub dated : date ≡ max moment before.clock
  pub left : now p after ≡ now p (lapsed p moment before)
  pub waits : after ≡ at (max moment before.clock) before

-- Of all that is due by the moment, in its order, the first so many objects lapse, and the clock is
-- there; what the registry is now is its lapse, however many they are.
pub record IsSettlement (p : PolicyRules) (moment at_most : ℕ) (before after : Registry) (done : ℕ) : Type 0 where
  pub counted : done ≡ min at_most (length (due_by p (max moment before.clock) before))
  pub left : after ≡ dues_lapsed p (max moment before.clock) (take at_most (due_by p (max moment before.clock) before)) (at (max moment before.clock) before)
  pub unnoticed : now p after ≡ lapsed p moment before

-- Nothing is done, and no time passes. What is told is the clock, and how many objects are due by the moment, or by the
-- clock if that is later, that haven't lapsed.
pub record IsBacklog (p : PolicyRules) (moment : ℕ) (before after : Registry) (found : Backlog) : Type 0 where
  pub clock : found.clock ≡ before.clock
  pub due : found.due ≡ length (due_by p (max moment before.clock) before)
  pub left : after ≡ before

-- a book's registry takes the step, if nothing wrong was taken from what keeps it
abbrev pub Steps : PolicyRules → ℕ → Command → ℕ → Reply → BookState → BookState → Type 0
Steps p r c moment reply old new =
    new.is_clean ≡ true → IsStep p r c moment old.content.registry new.content.registry reply

abbrev pub OrderSteps : PolicyRules → Order → ℕ → Code → BookState → BookState → Type 0
OrderSteps p order moment code old new =
    new.is_clean ≡ true → IsOrderStep p order moment old.content.registry new.content.registry code

abbrev pub Greets : PolicyRules → ℕ → ℕ → BookState → BookState → Type 0
Greets p moment date old new =
    new.is_clean ≡ true → IsGreetingStep p moment old.content.registry new.content.registry date

abbrev pub Settles : PolicyRules → ℕ → ℕ → ℕ → BookState → BookState → Type 0
Settles p moment at_most done old new =
    new.is_clean ≡ true
    → IsSettlement p moment at_most old.content.registry new.content.registry done

abbrev pub ShowsBacklog : PolicyRules → ℕ → Backlog → BookState → BookState → Type 0
ShowsBacklog p moment found old new =
    new.is_clean ≡ true → IsBacklog p moment old.content.registry new.content.registry found

-- the step is isolated, if nothing wrong was taken from what keeps the book
abbrev pub Isolates : PolicyRules → ℕ → Command → ℕ → Reply → BookState → BookState → Type 0
Isolates p r c moment reply old new =
    new.is_clean ≡ true → IsIsolated p r c moment old.content.registry new.content.registry reply

-- a reply and changes that are the rules' by the facts
pub record IsPrepared (p : PolicyRules) (r : ℕ) (c : Command) (t : ℕ) (f : Facts) (prepared : Prepared) : Type 0 where
  pub reply : prepared.reply ≡ reply_of p r c (decided p r t c f).verdict f.account.commands
  pub changes : prepared.changes ≡ (decided p r t c f).changes

-- the book holds what it held
pub record IsUnchanged (old new : BookState) : Type 0 where
  pub content : new.is_clean ≡ true → new.content ≡ old.content

-- what a call that gave up leaves; with Store, what keeps the book refused, and else it didn't
abbrev pub Fails : Fault → BookState → BookState → Type 0
Fails faults.Memory old new = IsUnchanged old new × NoRefusal old new
Fails faults.Store old new = IsUnchanged old new × HasRefused old new
Fails faults.Moment old new = IsUnchanged old new × NoRefusal old new

-- the book is kept under the same terms
abbrev pub SameTerms : BookState → BookState → Type 0
SameTerms old new = new.is_clean ≡ true → new.content.terms ≡ old.content.terms
