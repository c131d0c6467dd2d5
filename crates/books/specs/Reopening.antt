-- A book that is taken up from what keeps it, where a crash left one of another.
use Rattle.std.specs.Prelude.{◌≡◌, true, ⊤, Some}
use Rattle.policy.specs.declared.terms.Terms.{Terms}
use Rattle.states.specs.declared.readiness.Ready.{Ready}
use Rattle.states.specs.declared.readiness.Ready.TheVariants.{Empty, Used, Other}
use Rattle.states.specs.States.{Has, Remains}
use Rattle.books.specs.Book.{BookState, Stored, may_leave, never_opened}

pub record IsFound (readiness : Ready) (left : Stored) (s : BookState) : Type 0 where
  pub ready : s.readiness ≡ readiness
  pub content : s.content ≡ left
  pub clean : s.is_clean ≡ true

-- what was left is found: nothing, or a registry that was opened
abbrev pub IsFoundAgain : Ready → Stored → BookState → Type 0
IsFoundAgain Empty left s = IsFound Empty left s
IsFoundAgain Used left s = (terms : Terms) → left.terms ≡ Some terms → IsFound Used left s
IsFoundAgain Other left s = ⊤

-- what is found is one of what a crash might have left of the other
abbrev pub IsReopened : BookState → BookState → Type 0
IsReopened old new =
    (left : Remains Stored) × Has old.crash_leaves left
    × IsFoundAgain left.readiness left.content new

-- nothing, or a registry that was opened
abbrev pub IsBook : Ready → Stored → Type 0
IsBook Empty held = held ≡ never_opened
IsBook Used held = (terms : Terms) × (held.terms ≡ Some terms)
IsBook Other held = ⊥

-- a crash leaves what was found, and nothing else
abbrev pub LeavesFound : BookState → Type 0
LeavesFound s =
    (left : Remains Stored) → may_leave s left
    → (s.is_clean ≡ true) × (left ≡ record { readiness = s.readiness; content = s.content })

-- a book that was taken up from what kept it
pub record IsTakenUp (s : BookState) : Type 0 where
  pub is : s.is_clean ≡ true → IsBook s.readiness s.content
  pub leaves : LeavesFound s
