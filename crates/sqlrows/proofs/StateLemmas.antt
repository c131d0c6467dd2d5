-- One call after another.
use Rattle.std.proofs.Common.{◌≡◌, Bool, true, List, filter, find, Option, Result, Ok, Err, IfOk, refl, sym, ap, subst, ◌∙◌}
use Rattle.states.specs.declared.fault.BookFault.{BookFault}
use Rattle.states.specs.States.{Finds, Reads, StateOf, Stays, Writes}
use Rattle.states.proofs.LeavingLemmas.{leaves-on, leaves-refl}
pub use Rattle.states.proofs.CallLemmas.{finds-on, reads-on}
use Rattle.sqlrows.specs.Meanings.{HasChanged}
use Rattle.sqlrows.specs.Read.{rows_of}
use Rattle.sqlrows.proofs.RowLemmas.{find_one}

pub reads-same : {X : Type 0} (s : StateOf X) → Reads s s
reads-same s = record { clean = λ e. e; before = λ e. refl; opened = refl; content = λ e. refl; answers = λ was. was; leaves = leaves-refl s }

-- what is read and then refused
pub stays-on : {X : Type 0} (s m t : StateOf X) → Reads s m → Stays m t → Stays s t
stays-on s m t a b = record { clean = λ e. a.clean (b.clean e); before = λ e. b.before e ∙ a.before (b.clean e); leaves = leaves-on s m t a.leaves b.leaves }

-- one row is taken of those that were asked for
pub one-asked : {A X : Type 0} (r : Result (Option A) BookFault) (rows : List A) (p : A → Bool) (all : List A) (old new : StateOf X)
    → IfOk r (λ row. rows ≡ rows_of row) → Reads old new × (new.is_clean ≡ true → rows ≡ filter p all) → Finds r (find p all) old new
one-asked (Ok it) rows p all old new one asked = (asked.0, λ clean. find_one p all rows it (asked.1 clean) one)
one-asked (Err fault) rows p all old new one asked = record { clean = asked.0.clean; before = asked.0.before; leaves = asked.0.leaves }

-- a change of what was looked at before
pub then-made : {C : Type 0} (h : C → C) (way : C → C → Type 0) (a b c : StateOf C)
    → Reads a b → Writes (h b.content) b c → (b.is_clean ≡ true → way a.content (h a.content)) → HasChanged way a c
then-made h way a b c reads makes is = record {
  clean = λ e. reads.clean (makes.clean e);
  before = λ e. makes.before e ∙ reads.before (makes.clean e);
  opened = makes.opened;
  content = λ e. subst (way a.content) (sym (makes.content e ∙ ap h (reads.content (makes.clean e)))) (is (makes.clean e));
  answers = λ was. makes.answers (reads.answers was);
  leaves = leaves-on a b c reads.leaves makes.leaves;
}

-- one change after another
pub then-became : {C : Type 0} (first second as_written : C → C → Type 0) (a b c : StateOf C)
    → HasChanged first a b → HasChanged second b c → (b.is_clean ≡ true → first a.content b.content → second b.content c.content → as_written a.content c.content) → HasChanged as_written a c
then-became first second as_written a b c one two is = record {
  clean = λ e. one.clean (two.clean e);
  before = λ e. two.before e ∙ one.before (two.clean e);
  opened = two.opened;
  content = λ e. is (two.clean e) (one.content (two.clean e)) (two.content e);
  answers = λ was. two.answers (one.answers was);
  leaves = leaves-on a b c one.leaves two.leaves;
}
