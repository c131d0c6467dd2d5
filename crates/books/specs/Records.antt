-- The state of the records of a book, and what a call on them does.
use Rattle.std.specs.Prelude.{◌≡◌, ℕ, List, filter, Option, Result}
use Rattle.books.specs.Book.{Stored}
use Rattle.concerns.specs.Concerns.{concerned}
use Rattle.concerns.specs.DueFor.{due_for, is_picked}
use Rattle.concerns.specs.declared.given.Names.{Names}
use Rattle.lifecycle.specs.declared.due_object.Due.{Due}
use Rattle.model.specs.Registry.{Registry}
use Rattle.policy.specs.Rules.{PolicyRules}
use Rattle.states.specs.States.{Finds, FindsSome, Makes, StateOf}
use Rattle.states.specs.declared.fault.BookFault.{BookFault}

abbrev pub RecordsState : Type 0
RecordsState = StateOf Stored

-- a question of the registry: the answer is this of it, and nothing is changed
abbrev pub FindsIn : {A : Type 0} → Result A BookFault → (Registry → A) → RecordsState → RecordsState
    → Type 0
FindsIn result value old new = Finds result (value old.content.registry) old new

-- the same, of which this is true of the registry and the answer
abbrev pub FindsSomeIn : {A : Type 0} → Result A BookFault → (Registry → A → Type 0) → RecordsState
    → RecordsState → Type 0
FindsSomeIn result is old new = FindsSome result (is old.content.registry) old new

-- a change: this is made of what was held
abbrev pub MakesOf : {A : Type 0} → Result A BookFault → (Stored → Stored) → RecordsState → RecordsState
    → Type 0
MakesOf result made old new = Makes result (made old.content) old new

-- among these is all that is due by a moment and concerns a registrar, if one is given, and some names
abbrev pub IsDueNear : PolicyRules → Option ℕ → Names → ℕ → Registry → List Due → Type 0
IsDueNear p r names t s due = filter (is_picked (concerned r names s)) due ≡ due_for p r names t s
