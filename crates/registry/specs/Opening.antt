-- How a book is opened under a policy.
use Rattle.std.specs.Prelude.{◌≡◌, ◌≢◌, ◌≤◌, ℕ, zero, suc, Bool, true, false, List, [], ◌∷◌, ◌++◌, length, Option, Some, None}
use Rattle.model.specs.Lapse.{now}
use Rattle.policy.specs.declared.terms.Terms.{Terms}
use Rattle.policy.specs.declared.days.Period.{Period}
use Rattle.policy.specs.Rules.{PolicyRules, days_of}
use Rattle.policy.specs.Terms.{continues, terms_of}
use Rattle.registry.specs.declared.fault.OpenFault.{OpenFault}
use Rattle.registry.specs.declared.fault.OpenFault.TheVariants as refusals
use Rattle.decisions.specs.declared.change.Change.{Change}
use Rattle.decisions.specs.declared.change.Change.TheVariants.{OpenAccount}
use Rattle.decisions.specs.Changes.{changed_all}
use Rattle.books.specs.Book.{BookState, HasRefused, IsBack, NoRefusal, Stored}
use Rattle.states.specs.declared.readiness.Ready.TheVariants.{Other}

abbrev pub continues_earlier : ℕ → Terms → Option Terms → Bool
continues_earlier clock terms None = true
continues_earlier clock terms (Some earlier) = continues clock terms earlier

-- a book that was never opened, or was opened under terms that these continue, by its clock
abbrev pub goes_on : Terms → Stored → Bool
goes_on terms held = continues_earlier held.registry.clock terms held.terms

-- an account for each of the first n registrars
unfoldable pub openings : ℕ → List Change
openings zero = []
openings (suc n) = openings n ++ OpenAccount (suc n) ∷ []

-- what an opened book holds: the registrars have accounts, and the policy's terms are put down
abbrev pub opened : PolicyRules → Stored → Stored
opened p s = record { registry = changed_all p (openings (length p.ids)) s.registry; terms = Some (terms_of p) }

-- every period that began by the clock has the length that it had under the earlier policy
abbrev pub KeepsLengths : PolicyRules → Stored → Type 0
KeepsLengths p before =
    (q : PolicyRules) → before.terms ≡ Some (terms_of q)
    → (period : Period) (start : ℕ) → start ≤ before.registry.clock
    → days_of period start p ≡ days_of period start q

-- by now the registry is what it was by now under the earlier policy, once its registrars have accounts
abbrev pub OpensAsItWas : PolicyRules → Stored → Stored → Type 0
OpensAsItWas p before after =
    (q : PolicyRules) → before.terms ≡ Some (terms_of q)
    → now p after.registry ≡ changed_all p (openings (length p.ids)) (now q before.registry)

pub record Opens (p : PolicyRules) (old new : BookState) : Type 0 where
  pub counted : NoRefusal old new
  pub closed : new.is_open ≡ false
  pub content : new.is_clean ≡ true → new.content ≡ opened p old.content
  pub fits : new.is_clean ≡ true → goes_on (terms_of p) old.content ≡ true

-- a refused book is as it was, and what it is refused for is so
pub record HasOtherTerms (p : PolicyRules) (old new : BookState) : Type 0 where
  pub back : IsBack old new
  pub differs : new.is_clean ≡ true → goes_on (terms_of p) old.content ≡ false

-- what keeps the book is no other's
abbrev pub IsOurs : BookState → BookState → Type 0
IsOurs old new = new.is_clean ≡ true → old.readiness ≢ Other

-- what is another's is as it was
pub record IsOthers (old new : BookState) : Type 0 where
  pub back : IsBack old new
  pub counted : NoRefusal old new
  pub other : new.is_clean ≡ true → old.readiness ≡ Other

abbrev pub Refuses : OpenFault → PolicyRules → BookState → BookState → Type 0
Refuses refusals.Policy p old new = HasOtherTerms p old new
Refuses refusals.Schema p old new = IsOthers old new
Refuses refusals.Memory p old new = IsBack old new × NoRefusal old new
Refuses refusals.Store p old new = IsBack old new × HasRefused old new

-- a policy is refused only of a book that is ours
abbrev pub RefusesOurs : OpenFault → BookState → BookState → Type 0
RefusesOurs refusals.Policy old new = IsOurs old new
RefusesOurs refusals.Schema old new = Unit {0}
RefusesOurs refusals.Memory old new = Unit {0}
RefusesOurs refusals.Store old new = Unit {0}
