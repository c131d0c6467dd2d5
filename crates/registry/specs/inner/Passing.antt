-- How time passes in a registry: what somebody asks for lapses, and all else stays behind the clock.
use Rattle.std.specs.Prelude.{◌≡◌, ℕ, max, List, [], Option, Some, None, option_and_then}
use Rattle.concerns.specs.declared.given.Names.{Names}
use Rattle.concerns.specs.Concerns.{IsSettledIn, concerned}
use Rattle.concerns.specs.DueFor.{due_for}
use Rattle.concerns.specs.Names.{named_by, named_of, no_names}
use Rattle.lifecycle.specs.declared.due_object.Due.{Due}
use Rattle.model.specs.DueBy.{due_by}
use Rattle.model.specs.Lapse.{lapsed, now}
use Rattle.model.specs.Objects.{object_at}
use Rattle.model.specs.Registry.{Registry}
use Rattle.objects.specs.declared.roid.ObjectKind.{ObjectKind}
use Rattle.policy.specs.Rules.{PolicyRules}
use Rattle.protocol.specs.declared.order.StatusOrder.{StatusOrder}
use Rattle.decisions.specs.declared.order.OrderDecision.{OrderDecision}
use Rattle.decisions.specs.Orders.{decided_order}
use Rattle.registry.specs.Execution.{with_lapsed}
use Rattle.registry.specs.Faces.{balance_command}
use Rattle.registry.specs.Lapsing.{dues_lapsed}
use Rattle.registry.specs.declared.passing.Scope.{Scope}
use Rattle.registry.specs.declared.passing.Scope.TheVariants as scopes
use Rattle.rules.specs.Orders.{order_code}

-- what lapses before something is done: nothing, what concerns a registrar and names, or all
pub data Extent : Type 0 where
  nothing : Extent
  concerning : Option ℕ → Names → Extent
  everything : Extent

-- what an info of an object concerns
abbrev pub about : ObjectKind → List ℕ → Extent
about kind name = concerning None (named_of kind name)

-- what an order names, if its name reads
abbrev pub about_named : ObjectKind → Option (List ℕ) → Extent
about_named kind None = nothing
about_named kind (Some name) = about kind name

abbrev pub extent_of : Scope → Extent
extent_of scopes.Nothing = nothing
extent_of (scopes.Command caller c) = concerning (Some caller) (named_by c.now)
extent_of (scopes.Registrar r) = concerning (Some r) (named_by balance_command)
extent_of (scopes.Object kind name) = about kind name.now
extent_of (scopes.Named kind name) = about_named kind name.now
extent_of scopes.All = everything

-- of what is due by a moment, what lapses
abbrev pub due_in : PolicyRules → Extent → ℕ → Registry → List Due
due_in p nothing t s = []
due_in p (concerning r g) t s = due_for p r g t s
due_in p everything t s = due_by p t s

-- the registry once it has lapsed
abbrev pub lapsing : PolicyRules → Extent → ℕ → Registry → Registry
lapsing p what t s = dues_lapsed p t (due_in p what t s) s

-- nothing of it is due
abbrev pub IsSettledAs : PolicyRules → Extent → Registry → Type 0
IsSettledAs p nothing s = IsSettledIn p (concerned None no_names s) s
IsSettledAs p (concerning r g) s = IsSettledIn p (concerned r g s) s
IsSettledAs p everything s = now p s ≡ s

-- The clock is at the moment and is the answer, nothing of what lapses is due, and what the registry is
-- now is its lapse.
pub record IsPassed (p : PolicyRules) (what : Extent) (moment : ℕ) (before after : Registry)
    (date : ℕ) : Type 0 where
  pub answer_is : date ≡ max moment before.clock
  pub clock : after.clock ≡ max moment before.clock
  pub settled : IsSettledAs p what after
  pub future : now p after ≡ lapsed p moment before
  pub waits : after ≡ with_lapsed p (due_in p what) moment before

-- the decision on an order of statuses, of the object under a name, if there is a name
abbrev pub status_at : StatusOrder → Option (List ℕ) → Registry → OrderDecision
status_at o name s = decided_order o (option_and_then (object_at s o.kind) name) (order_code o (option_and_then (object_at s o.kind) name))
