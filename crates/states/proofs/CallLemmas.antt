-- One call on a store after another.
use Rattle.std.proofs.Common.{◌≡◌, true, Result, Ok, Err, ◌∙◌}
use Rattle.states.specs.{declared.fault.BookFault.BookFault, States.{Answers, Finds, LeavesSame, Makes, Reads, StateOf}}
use Rattle.states.proofs.LeavingLemmas.{leaves-on}

pub reads-on : {X : Type 0} (s m t : StateOf X) → Reads s m → Reads m t → Reads s t
reads-on s m t a b = record {
  clean = λ e. a.clean (b.clean e);
  before = λ e. b.before e ∙ a.before (b.clean e);
  opened = b.opened ∙ a.opened;
  content = λ e. b.content e ∙ a.content (b.clean e);
  answers = λ was. b.answers (a.answers was);
  leaves = leaves-on s m t a.leaves b.leaves;
}

-- a question behind another
pub finds-on : {A X : Type 0} (r : Result A BookFault) (s m t : StateOf X) (g h : A) → Reads s m → (m.is_clean ≡ true → g ≡ h) → Finds r g m t → Finds r h s t
finds-on (Ok it) s m t g h read same found = (reads-on s m t read found.0, λ e. found.1 e ∙ same (found.0.clean e))
finds-on (Err fault) s m t g h read same found = record { clean = λ e. read.clean (found.clean e); before = λ e. found.before e ∙ read.before (found.clean e); leaves = leaves-on s m t read.leaves found.leaves }

-- a change after a call that stays in the transaction
pub makes-on : {A X : Type 0} (r : Result A BookFault) (s m t : StateOf X) (g h : X) → (m.is_clean ≡ true → s.is_clean ≡ true) → (m.is_clean ≡ true → m.before ≡ s.before)
    → (Answers s → Answers m) → LeavesSame s m → (m.is_clean ≡ true → g ≡ h) → Makes r g m t → Makes r h s t
makes-on (Ok done) s m t g h clean before answers leaves same made = record {
  clean = λ e. clean (made.clean e);
  before = λ e. made.before e ∙ before (made.clean e);
  opened = made.opened;
  content = λ e. made.content e ∙ same (made.clean e);
  answers = λ was. made.answers (answers was);
  leaves = leaves-on s m t leaves made.leaves;
}
makes-on (Err fault) s m t g h clean before answers leaves same made = record { clean = λ e. clean (made.clean e); before = λ e. made.before e ∙ before (made.clean e); leaves = leaves-on s m t leaves made.leaves }
