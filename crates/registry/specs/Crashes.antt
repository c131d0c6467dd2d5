-- What a crash of the machine leaves of a registry: what a call makes of what its book holds.
use Rattle.std.specs.Prelude.{◌≡◌, true, Result, Ok, Err}
use Rattle.model.specs.Registry.{Registry}
use Rattle.policy.specs.Rules.{PolicyRules}
use Rattle.policy.specs.Terms.{terms_of}
use Rattle.registry.specs.declared.fault.Fault.{Fault}
use Rattle.registry.specs.declared.fault.Fault.TheVariants as faults
use Rattle.registry.specs.declared.fault.OpenFault.{OpenFault}
use Rattle.registry.specs.declared.fault.OpenFault.TheVariants as refusals
use Rattle.registry.specs.Opening.{goes_on, opened}
use Rattle.books.specs.Book.{BookState, LeavesItself, LeavesOld, LeavesOldOrMade, Stored}

-- The step of its registry, whatever it answers, under the same terms.
abbrev pub Makes : {A : Type 0} → (Registry → Registry → A → Type 0) → Stored → Stored → Type 0
Makes {A} step before after =
    ((answer : A) × step before.registry after.registry answer) × (after.terms ≡ before.terms)

-- What a crash leaves after a call that makes this of what is held and gave up: what it could leave before, or what
-- the call makes. One that came too late was never tried.
abbrev pub GivesUpTo : Fault → (Stored → Stored → Type 0) → BookState → BookState → Type 0
GivesUpTo faults.Memory makes old new = LeavesOldOrMade makes old new
GivesUpTo faults.Store makes old new = LeavesOldOrMade makes old new
GivesUpTo faults.Moment makes old new = LeavesOld old new

-- The same of any such call: once it answered, a crash leaves what is held now, and nothing else. There is a
-- book then, and where it gave up there is one if there was one.
abbrev pub Outlives : {A : Type 0} → Result A Fault → (Stored → Stored → Type 0) → BookState
    → BookState → Type 0
Outlives (Ok it) makes old new = LeavesItself new
Outlives (Err fault) makes old new = GivesUpTo fault makes old new × (new.readiness ≡ old.readiness)

-- ---- openings

-- An opening adds the accounts and puts down the terms, where they continue those that were put down.
abbrev pub OpensTo : PolicyRules → Stored → Stored → Type 0
OpensTo p before after = (goes_on (terms_of p) before ≡ true) × (after ≡ opened p before)

-- What a crash leaves of a book that wasn't opened: what it could leave before, or that with all that the opening
-- adds. What is another's, or was used under another policy, isn't touched.
abbrev pub RefusedTo : OpenFault → PolicyRules → BookState → BookState → Type 0
RefusedTo refusals.Policy p old new = LeavesOld old new
RefusedTo refusals.Schema p old new = LeavesOld old new
RefusedTo refusals.Memory p old new = LeavesOldOrMade (OpensTo p) old new
RefusedTo refusals.Store p old new = LeavesOldOrMade (OpensTo p) old new
