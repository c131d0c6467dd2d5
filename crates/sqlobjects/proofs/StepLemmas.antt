-- One step of a change after another.
use Rattle.std.proofs.Common.{◌≡◌, true, Result, Ok, Err, refl, sym, subst, ◌∙◌}
use Rattle.sqlobjects.proofs.Words.{Changes, HasChanged, stays-on, then-made}
use Rattle.states.specs.{declared.fault.BookFault.BookFault, States.{Makes, Reads, StateOf, Writes}}
use Rattle.states.proofs.LeavingLemmas.{leaves-on, leaves-refl}

pub asked-then : {C : Type 0} (step way : C → C → Type 0) (a b c : StateOf C) → Reads a b → HasChanged step b c → (c.is_clean ≡ true → step a.content c.content → way a.content c.content) → HasChanged way a c
asked-then step way a b c asked made is = record {
  clean = λ e. asked.clean (made.clean e);
  before = λ e. made.before e ∙ asked.before (made.clean e);
  opened = made.opened;
  content = λ e. is e (subst (λ x. step x c.content) (asked.content (made.clean e)) (made.content e));
  answers = λ was. made.answers (asked.answers was);
  leaves = leaves-on a b c asked.leaves made.leaves;
}

-- a write alone
pub made : {C : Type 0} (way : C → C → Type 0) (h : C → C) (a b : StateOf C) → Writes (h a.content) a b → way a.content (h a.content) → HasChanged way a b
made way h a b write is = record { clean = write.clean; before = write.before; opened = write.opened; content = λ e. subst (way a.content) (sym (write.content e)) is; answers = write.answers; leaves = write.leaves }

-- a write alone, of which what is answered is known only while nothing wrong was taken
pub wrote : {C : Type 0} (way : C → C → Type 0) (held : C) (a b : StateOf C) → Writes held a b → (b.is_clean ≡ true → b.content ≡ held → way a.content b.content) → HasChanged way a b
wrote way held a b write is = record { clean = write.clean; before = write.before; opened = write.opened; content = λ e. is e (write.content e); answers = write.answers; leaves = write.leaves }

-- one more write
pub became-made : {C : Type 0} (step way : C → C → Type 0) (h : C → C) (a b c : StateOf C) → HasChanged step a b → Writes (h b.content) b c
    → (b.is_clean ≡ true → step a.content b.content → way a.content (h b.content)) → HasChanged way a c
became-made step way h a b c made write is = record {
  clean = λ e. made.clean (write.clean e);
  before = λ e. write.before e ∙ made.before (write.clean e);
  opened = write.opened;
  content = λ e. subst (way a.content) (sym (write.content e)) (is (write.clean e) (made.content (write.clean e)));
  answers = λ was. write.answers (made.answers was);
  leaves = leaves-on a b c made.leaves write.leaves;
}

-- a change after a question, which both may fail
pub asked-turns : {A C : Type 0} (r : Result A BookFault) (step way : C → C → Type 0) (a b c : StateOf C) → Reads a b → Changes r step b c
    → (b.is_clean ≡ true → step a.content c.content → way a.content c.content) → Changes r way a c
asked-turns (Ok done) step way a b c asked made is = asked-then step way a b c asked made (λ e. is (made.clean e))
asked-turns (Err fault) step way a b c asked made is = record { clean = λ e. asked.clean (made.clean e); before = λ e. made.before e ∙ asked.before (made.clean e); leaves = leaves-on a b c asked.leaves made.leaves }

-- one change after another, behind a question
pub asked-became : {C : Type 0} (first second way : C → C → Type 0) (a b m c : StateOf C) → Reads a b → HasChanged first b m → HasChanged second m c
    → (a.is_clean ≡ true → b.is_clean ≡ true → m.is_clean ≡ true → c.is_clean ≡ true → first a.content m.content → second m.content c.content → way a.content c.content) → HasChanged way a c
asked-became first second way a b m c asked one two is = record {
  clean = λ e. asked.clean (one.clean (two.clean e));
  before = λ e. two.before e ∙ one.before (two.clean e) ∙ asked.before (one.clean (two.clean e));
  opened = two.opened;
  content = λ e.
      let between = two.clean e in
      let there = one.clean between in
      is (asked.clean there) there between e (subst (λ x. first x m.content) (asked.content there) (one.content between)) (two.content e);
  answers = λ was. two.answers (one.answers (asked.answers was));
  leaves = leaves-on a b c asked.leaves (leaves-on b m c one.leaves two.leaves);
}

-- a question, after which nothing has to be done
pub asked-stood : {C : Type 0} (way : C → C → Type 0) (a b : StateOf C) → Reads a b → a.is_open ≡ true → (b.is_clean ≡ true → way a.content a.content) → HasChanged way a b
asked-stood way a b asked begun is = record {
  clean = asked.clean;
  before = asked.before;
  opened = asked.opened ∙ begun;
  content = λ e. subst (way a.content) (sym (asked.content e)) (is e);
  answers = asked.answers;
  leaves = asked.leaves;
}

-- one change after a question
pub asked-makes : {A C : Type 0} (r : Result A BookFault) (h : C → C) (way : C → C → Type 0) (a b c : StateOf C) → Reads a b → Makes r (h b.content) b c → (b.is_clean ≡ true → way a.content (h a.content)) → Changes r way a c
asked-makes (Ok done) h way a b c asked makes is = then-made h way a b c asked makes is
asked-makes (Err fault) h way a b c asked makes is = stays-on a b c asked makes

-- nothing yet
pub stood : {C : Type 0} (way : C → C → Type 0) (a : StateOf C) → a.is_open ≡ true → way a.content a.content → HasChanged way a a
stood way a begun is = record { clean = λ e. e; before = λ e. refl; opened = begun; content = λ e. is; answers = λ was. was; leaves = leaves-refl a }
