-- The laws of what is concerned: who looks at a registry in which that has lapsed sees what all see once
-- everything that is due has.
use Rattle.std.specs.Prelude.{◌≡◌, ℕ, ℤ, List, Option, Some, None}
use Rattle.facts.specs.Facts.{facts}
use Rattle.model.specs.Lapse.{Choice, at, lapse_some, now}
use Rattle.model.specs.Objects.{object_at}
use Rattle.model.specs.Registry.{Registry}
use Rattle.objects.specs.declared.roid.ObjectKind.{ObjectKind}
use Rattle.policy.specs.Rules.{PolicyRules}
use Rattle.protocol.specs.declared.command.Command.{Command}
use Rattle.protocol.specs.declared.order.Order.TheVariants as orders
use Rattle.protocol.specs.declared.order.StatusOrder.{StatusOrder}
use Rattle.protocol.specs.Orders.{name_ordered}
use Rattle.decisions.specs.Orders.{order_answer, order_effect}
use Rattle.decisions.specs.Steps.{answer, effect}
use Rattle.concerns.specs.declared.given.Names.{Names}
use Rattle.concerns.specs.Concerns.{HasConcerned, IsSettledIn, concerned}
use Rattle.concerns.specs.Names.{named_by, named_of, no_names}

-- what is concerned and due has lapsed, so nothing of it is due
abbrev pub ConcernedSettles : Type 0
ConcernedSettles =
    (p : PolicyRules) (r : Option ℕ) (g : Names) (t : ℕ) (chosen : Choice) (s : Registry) → HasConcerned p r g t chosen s
    → IsSettledIn p (concerned r g (at t (lapse_some p chosen t s))) (at t (lapse_some p chosen t s))

-- a registrar's command is judged by the facts that it would be judged by
abbrev pub HasFactsOfNow : Type 0
HasFactsOfNow =
    (p : PolicyRules) (r : ℕ) (c : Command) (s : Registry)
    → IsSettledIn p (concerned (Some r) (named_by c) s) s
    → facts p r c (now p s) ≡ facts p r c s

-- it is answered so
abbrev pub IsAnsweredAsNow : Type 0
IsAnsweredAsNow =
    (p : PolicyRules) (r : ℕ) (c : Command) (s : Registry)
    → IsSettledIn p (concerned (Some r) (named_by c) s) s
    → answer p r c (now p s) ≡ answer p r c s

-- and leaves what it would leave, once the rest lapses
abbrev pub LeavesWhatItWould : Type 0
LeavesWhatItWould =
    (p : PolicyRules) (r : ℕ) (c : Command) (s : Registry)
    → IsSettledIn p (concerned (Some r) (named_by c) s) s
    → now p (effect p r c s) ≡ now p (effect p r c (now p s))

-- what an info of an object concerns decides what is under its name
abbrev pub IsThereAsNow : Type 0
IsThereAsNow =
    (p : PolicyRules) (kind : ObjectKind) (name : List ℕ) (s : Registry)
    → IsSettledIn p (concerned None (named_of kind name) s) s
    → object_at (now p s) kind name ≡ object_at s kind name

-- what an order names, if its name reads
abbrev pub IsSettledFor : PolicyRules → ObjectKind → Option (List ℕ) → Registry → Type 0
IsSettledFor p kind None s = IsSettledIn p (concerned None no_names s) s
IsSettledFor p kind (Some name) s = IsSettledIn p (concerned None (named_of kind name) s) s

abbrev pub IsOrderedAsNow : Type 0
IsOrderedAsNow =
    (p : PolicyRules) (o : StatusOrder) (s : Registry)
    → IsSettledFor p o.kind (name_ordered p.zone o) s
    → (order_answer p (orders.Status o) (now p s) ≡ order_answer p (orders.Status o) s)
    × (now p (order_effect p (orders.Status o) s) ≡ now p (order_effect p (orders.Status o) (now p s)))

-- a deposit concerns nothing
abbrev pub DepositsAnywhere : Type 0
DepositsAnywhere =
    (p : PolicyRules) (id : List ℕ) (cents : ℤ) (s : Registry)
    → now p (order_effect p (orders.Deposit id cents) s) ≡ now p (order_effect p (orders.Deposit id cents) (now p s))
