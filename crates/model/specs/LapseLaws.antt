-- The laws of the lapse of a registry: what time alone makes of it is one thing, in whatever steps and
-- order it is done.
use Rattle.std.specs.Prelude.{◌≡◌, ◌≤◌, ◌<◌, ℕ, false, List, Some, None}
use Rattle.std.specs.FinMap.{get}
use Rattle.accounts.specs.declared.message.Subject.{Subject}
use Rattle.lifecycle.specs.Lapse.{due_at, due_by}
use Rattle.objects.specs.declared.contact.Contact.{Contact}
use Rattle.objects.specs.declared.domain.Domain.{Domain}
use Rattle.policy.specs.Rules.{PolicyRules}
use Rattle.model.specs.Registry.{Registry}
use Rattle.model.specs.Lapse.{Choice, among, at, either, lapse_each, lapse, lapse_some, now}

-- ---- one lapse after another

-- to lapse to a moment and then to a later one is to lapse to the later one
abbrev pub LapsesInSteps : Type 0
LapsesInSteps =
    (p : PolicyRules) (a b : ℕ) → a ≤ b → (s : Registry) → lapse p b (lapse p a s) ≡ lapse p b s

-- the same where only some objects had lapsed to the earlier moment, wherever the clock was put
abbrev pub LapsesOnFromSome : Type 0
LapsesOnFromSome =
    (p : PolicyRules) (chosen : Choice) (a b clock : ℕ) → a ≤ b → (s : Registry)
    → lapse p b (at clock (lapse_some p chosen a s)) ≡ lapse p b s

-- some objects, and then some, lapse as they do together
abbrev pub SomeLapseTogether : Type 0
SomeLapseTogether =
    (p : PolicyRules) (x y : Choice) (t : ℕ) (s : Registry)
    → lapse_some p y t (lapse_some p x t s) ≡ lapse_some p (either x y) t s

-- and in either order
abbrev pub SomeLapseInAnyOrder : Type 0
SomeLapseInAnyOrder =
    (p : PolicyRules) (x y : Choice) (t : ℕ) (s : Registry)
    → lapse_some p y t (lapse_some p x t s) ≡ lapse_some p x t (lapse_some p y t s)

-- two registries that are the same by their own clock have one future
abbrev pub HaveOneFuture : Type 0
HaveOneFuture =
    (p : PolicyRules) (x y : Registry) (t : ℕ) → now p x ≡ now p y → x.clock ≤ t
    → lapse p t x ≡ lapse p t y

-- ---- one object after another

-- objects that lapse one after another, each looked up by its name, lapse as they do together
abbrev pub EachLapsesAsSome : Type 0
EachLapsesAsSome =
    (p : PolicyRules) (t : ℕ) (objects : List (Subject × List ℕ)) (s : Registry)
    → lapse_each p t objects s ≡ lapse_some p (among objects) t s

-- what isn't chosen isn't due by a moment
pub record HasAllDue (p : PolicyRules) (t : ℕ) (chosen : Choice) (s : Registry) : Type 0 where
  pub contacts : (name : List ℕ) (c : Contact) → get s.contacts name ≡ Some c
      → chosen.contacts name ≡ false → due_by t c.transfer ≡ None
  pub domains : (name : List ℕ) (d : Domain) → get s.domains name ≡ Some d
      → chosen.domains name ≡ false → t < due_at p d

-- where all that are due have lapsed, the registry has
abbrev pub AllDueLapseAsAll : Type 0
AllDueLapseAsAll =
    (p : PolicyRules) (t : ℕ) (chosen : Choice) (s : Registry) → HasAllDue p t chosen s
    → at t (lapse_some p chosen t s) ≡ lapse p t s

-- and where they have done so one after another
abbrev pub EachDueLapsesAsAll : Type 0
EachDueLapsesAsAll =
    (p : PolicyRules) (t : ℕ) (objects : List (Subject × List ℕ)) (s : Registry)
    → HasAllDue p t (among objects) s
    → at t (lapse_each p t objects s) ≡ lapse p t s

-- to let any objects lapse one after another first, wherever the clock is put, changes no later lapse
abbrev pub LapsesOnFromEach : Type 0
LapsesOnFromEach =
    (p : PolicyRules) (objects : List (Subject × List ℕ)) (a b clock : ℕ) → a ≤ b → (s : Registry)
    → lapse p b (at clock (lapse_each p a objects s)) ≡ lapse p b s

-- ---- where nothing is due

-- nothing is due by the registry's own clock
pub record IsSettled (p : PolicyRules) (s : Registry) : Type 0 where
  pub contacts : (name : List ℕ) (c : Contact) → get s.contacts name ≡ Some c
      → due_by s.clock c.transfer ≡ None
  pub domains : (name : List ℕ) (d : Domain) → get s.domains name ≡ Some d → s.clock < due_at p d

-- such a registry is what it is now
abbrev pub SettledIsNow : Type 0
SettledIsNow = (p : PolicyRules) (s : Registry) → IsSettled p s → now p s ≡ s

-- and a lapse leaves such a one
abbrev pub LapsedIsSettled : Type 0
LapsedIsSettled = (p : PolicyRules) (t : ℕ) (s : Registry) → IsSettled p (lapse p t s)
