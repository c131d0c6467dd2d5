-- What every call of the registry keeps, whatever it is asked and whatever it answers.
use Rattle.std.specs.Prelude.{◌≡◌, ℕ, Result, IfOk, OnOk}
use Rattle.policy.specs.Rules.{PolicyRules}
use Rattle.model.specs.Lapse.{lapsed}
use Rattle.isolation.specs.Public.{public_part}
use Rattle.isolation.specs.Runs.{Answer, Question, look_up, shown}
use Rattle.registry.specs.declared.fault.Fault.{Fault}
use Rattle.registry.specs.declared.fault.OpenFault.{OpenFault}
use Rattle.registry.specs.Crashes.{Outlives, RefusedTo}
use Rattle.registry.specs.Execution.{SameTerms}
use Rattle.registry.specs.Money.{BookKeepsMoney}
use Rattle.registry.specs.Opening.{IsOurs, Opens, Refuses, RefusesOurs}
use Rattle.registry.specs.TwoRuns.{BookTellsAlike, StepsOfTwo}
use Rattle.registry.specs.WellFormed.{BookKeepsWellFormed, BookOpensWellFormed, HasTermsOf}
use Rattle.books.specs.Book.{BookState, Follows, LeavesItself, Stored}

-- A question was answered at a moment. The book is kept under the policy's terms, as it was; a well formed registry
-- stays one; the money of every account follows; and in any other registry that is one with
-- this one but for what others hide, an alike question goes on alike.
pub record IsKept (p : PolicyRules) (moment : ℕ) (x : Question) (a : Answer) (old new : BookState) : Type 0 where
  pub terms : SameTerms old new
  pub has_terms : HasTermsOf p new
  pub well_formed : BookKeepsWellFormed p x old new
  pub money : BookKeepsMoney p moment x old new
  pub two_runs : StepsOfTwo p moment x a old new

-- Whatever is answered, the policy stays, what was refused stays counted, and a crash of the machine leaves the
-- call whole or leaves nothing of it: once it answered, what is held now and nothing else. All else is kept
-- where the question is answered; what a fault leaves is said by itself.
pub record CallKeeps {A : Type 0} (p : PolicyRules) (moment : ℕ) (x : Question) (as_answer : A → Answer) (makes : Stored → Stored → Type 0) (result : Result A Fault) (after : PolicyRules) (old new : BookState) : Type 0 where
  pub policy : after ≡ p
  pub follows : Follows old new
  pub crash : Outlives result makes old new
  pub answered : IfOk result (λ it. IsKept p moment x (as_answer it) old new)

-- of a call that looks something up, or lets objects lapse and tells nothing but how many
abbrev pub LooksUpKeeping : {A : Type 0} → PolicyRules → ℕ → (Stored → Stored → Type 0)
    → Result A Fault → PolicyRules → BookState → BookState → Type 0
LooksUpKeeping p moment makes result after old new = CallKeeps p moment look_up (λ found. shown (public_part p (lapsed p moment old.content.registry))) makes result after old new

-- The same of a call that changes nothing, and of one inside: all else that is kept follows.
pub record StepKeeps {A : Type 0} (p : PolicyRules) (makes : Stored → Stored → Type 0) (result : Result A Fault) (after : PolicyRules) (old new : BookState) : Type 0 where
  pub policy : after ≡ p
  pub follows : Follows old new
  pub crash : Outlives result makes old new
  pub terms : OnOk result (SameTerms old new)

-- A book was opened under a policy. A new book, or one of a well formed registry, holds a well formed
-- registry, under the policy's terms; from what it holds on, alike lists tell each registrar the same; and a
-- crash of the machine leaves what is held, and nothing else.
pub record IsOpenedAs (p : PolicyRules) (after : PolicyRules) (old new : BookState) : Type 0 where
  pub policy : after ≡ p
  pub opens : Opens p old new
  pub ours : IsOurs old new
  pub well_formed : BookOpensWellFormed p old new
  pub has_terms : HasTermsOf p new
  pub tells_alike : BookTellsAlike p new
  pub crash : LeavesItself new
  pub follows : Follows old new

-- A book was refused, and handed back as it was. A crash leaves it so, or with all that the opening adds, where
-- that was tried.
pub record IsRefused (fault : OpenFault) (p : PolicyRules) (old new : BookState) : Type 0 where
  pub refuses : Refuses fault p old new
  pub ours : RefusesOurs fault old new
  pub crash : RefusedTo fault p old new
  pub follows : Follows old new
