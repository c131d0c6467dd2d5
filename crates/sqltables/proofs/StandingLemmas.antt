-- What a statement leaves of a store of rows.
use Rattle.std.proofs.Common.{◌≡◌, ◌&&◌, inl, inr, not, ℕ, Bool, true, false, List, [], IfOk, IfErr, Result, Ok, Err, IsTrue, refl, sym, ap, subst, subst₂, ◌∙◌, if◌then◌else◌, arith, true≢false}
use Rattle.sqltables.proofs.Words.{AgreesWithForm, and_parts, Answer, AreRight, Bears, Content, Database, Error, Fits, Form, Guards, HasCleanDisk}
use Rattle.sqltables.proofs.Words.{IsNotRun, IsUnchanged, LeavesSame, not_run, readiness_of, Reads, Recalls, Remains, Row, rows_in}
use Rattle.sqltables.proofs.Words.{State, Stays, StaysOrUndoes, store_state, Survives, Trees, undone, was_open}
use Rattle.sqlite_trees.specs.View.{doubt}
use Rattle.sqlite.specs.State.{IsRolledBack}

-- ---- clean and open

pub honest : (s : State) → s.is_clean ≡ true → HasCleanDisk s
unfolding doubt
honest s e = ap doubt e

clean-if : (b : Bool) → doubt b ≡ 0 → b ≡ true
unfolding doubt
clean-if true e = refl
clean-if false e = absurd cc

pub clean-of : (s : State) → HasCleanDisk s → s.is_clean ≡ true
clean-of s e = clean-if s.is_clean e

pub was-honest : (old new : State) (P : Trees → Type 0) → Survives old new P → HasCleanDisk new → HasCleanDisk old
was-honest old new P it clean = omega (arith, it.clean, clean)

pub both : (s : State) → (s.is_clean && s.is_open) ≡ true → HasCleanDisk s × IsTrue s.is_open
both s e = let parts = and_parts s.is_clean s.is_open e in (honest s parts.0, parts.1)

pub clean-before : (old new : State) (P : Trees → Type 0) → Survives old new P → HasCleanDisk new → IsTrue old.is_open → (old.is_clean && old.is_open) ≡ true
clean-before old new P survives clean opened = ap (λ (b : Bool). b && old.is_open) (clean-of old (was-honest old new P survives clean)) ∙ opened

-- ---- what a crash may leave

pub leaves-same : (form after : Form) (begun still : Bool) (old new : State) (P : Trees → Type 0) (leaves : List (Remains Content)) → Survives old new P → readiness_of after ≡ readiness_of form → LeavesSame (store_state form begun old leaves) (store_state after still new leaves)
leaves-same form after begun still old new P leaves survives ready = record { honest = λ e. clean-of old (was-honest old new P survives (honest new e)); same = refl; ready = ready }

-- to undo what was begun makes no book, and unmakes none
pub undone-ready : (form : Form) → readiness_of (undone form) ≡ readiness_of form
undone-ready form = grind arith

-- after a call that commits nothing
pub guards-on : (begun still : Bool) (old new : State) (P : Trees → Type 0) (leaves : List (Remains Content)) → Survives old new P → Guards begun old leaves
    → (HasCleanDisk new → still ≡ true → IsTrue new.is_open) → (HasCleanDisk new → (db : Trees) → new.may_leave db → old.may_leave db) → Guards still new leaves
guards-on begun still old new P leaves survives guards opened no_more = record {
  opened = opened;
  covers = λ clean db may. guards.covers (was-honest old new P survives clean) db (no_more clean db may);
}

-- the invariant of a store, where it is known whether a transaction is open
pub as-begun : (form : Form) (a b : Bool) (s : State) (leaves : List (Remains Content)) (kept : List Answer) → a ≡ b → Fits form a s × Guards a s leaves × Recalls s kept → Fits form b s × Guards b s leaves × Recalls s kept
as-begun form a b s leaves kept e it = subst (λ (c : Bool). Fits form c s × Guards c s leaves × Recalls s kept) e it

-- inside a transaction the connection was open
pub guarded : (old new : State) (P : Trees → Type 0) (leaves : List (Remains Content)) → Survives old new P → Guards true old leaves → HasCleanDisk new → IsTrue old.is_open
guarded old new P leaves survives guards clean = guards.opened (was-honest old new P survives clean) refl

pub leaves-no-more : (old new : State) → Survives old new (λ _. ⊥) → HasCleanDisk new → (db : Trees) → new.may_leave db → old.may_leave db
leaves-no-more old new survives clean db may = elim (survives.crash clean db may) [ inl was ↦ was | inr none ↦ absurd none ]

-- what answers as long as the disk is clean is open
pub answered-open : (old new : State) (P : Trees → Type 0) → Survives old new P → (old.is_clean ≡ true → (old.is_clean && old.is_open) ≡ true) → HasCleanDisk new → IsTrue old.is_open
answered-open old new P survives answers clean = (and_parts old.is_clean old.is_open (answers (clean-of old (was-honest old new P survives clean)))).1

-- ---- what the forms say

bears-undone : (form : Form) (now committed : Database) → Bears form now committed → Bears (undone form) committed committed
bears-undone form now committed it = grind arith

undone-twice : (form : Form) → undone (undone form) ≡ undone form
undone-twice form = grind arith

pub agrees-unchanged : (form : Form) (begun : Bool) (old new : State) → IsUnchanged old new → AgreesWithForm form begun old → AgreesWithForm form begun new
agrees-unchanged form begun old new same it =
    let was = same.0 in
    record {
      mode = was.mode ∙ it.mode;
      bears = subst₂ (Bears form) (sym was.now_is) (sym was.committed_is) it.bears;
      settled = λ idle. was.now_is ∙ it.settled idle ∙ sym was.committed_is;
      making = it.making;
    }

pub agrees-back : (form : Form) (begun : Bool) (old new : State) → IsRolledBack old new → IsTrue new.is_open → AgreesWithForm form begun old → AgreesWithForm (undone form) false new
agrees-back form begun old new back opened it =
    let gone = back.undone opened in
    record {
      mode = back.autocommit;
      bears = subst₂ (Bears (undone form)) (sym gone.0) (sym gone.1) (bears-undone form old.now old.committed it.bears);
      settled = λ _. gone.0 ∙ sym gone.1;
      making = λ _. undone-twice form;
    }

-- where no transaction is open
agrees-idle : (form : Form) (s : State) → AgreesWithForm form false s → AgreesWithForm (undone form) false s
agrees-idle form s it = subst (λ (f : Form). AgreesWithForm f false s) (sym (it.making refl)) it

-- where going back leads
pub home : (form : Form) (begun : Bool) (s : State) (leaves : List (Remains Content)) → AgreesWithForm form begun s → (store_state form begun s leaves).before ≡ rows_in (undone form) s.committed.trees
home form true s leaves it = refl
home form false s leaves it = ap (λ (f : Form). rows_in f s.now.trees) (sym (it.making refl)) ∙ ap (λ (db : Database). rows_in (undone form) db.trees) (it.settled refl)

same-before : (form : Form) (begun : Bool) (old new : State) (leaves : List (Remains Content)) → IsUnchanged old new → (store_state form begun new leaves).before ≡ (store_state form begun old leaves).before
same-before form begun old new leaves same =
    ap (λ (db : Database). if begun then rows_in (undone form) db.trees else rows_in form new.now.trees) same.0.committed_is
    ∙ ap (λ (db : Database). if begun then rows_in (undone form) old.committed.trees else rows_in form db.trees) same.0.now_is

idle-if : (b mode : Bool) → b ≡ not mode → b ≡ true → mode ≡ false
idle-if b mode e is = grind arith

held-if : (b mode : Bool) → b ≡ not mode → b ≡ false → mode ≡ true
held-if b mode e is = grind arith

-- what a call that failed left, while the disk is clean and the connection open: all is as it was, or undone
module _ (form : Form) (begun : Bool) (old new : State) (auto : Bool) (tells : auto ≡ not new.in_transaction) where
  abbrev pub Left : Type 0
  Left = HasCleanDisk new → IsTrue new.is_open → StaysOrUndoes old new × AgreesWithForm form begun old

  idle-after : StaysOrUndoes old new → IsTrue new.is_open → AgreesWithForm form begun old → auto ≡ true → AgreesWithForm (undone form) false new
  idle-after (inl same) opened it is =
      let none : begun ≡ false = sym it.mode ∙ sym same.0.mode ∙ idle-if auto new.in_transaction tells is in
      agrees-idle form new (subst (λ (b : Bool). AgreesWithForm form b new) none (agrees-unchanged form begun old new same it))
  idle-after (inr back) opened it is = agrees-back form begun old new back opened it

  held-after : StaysOrUndoes old new → AgreesWithForm form begun old → auto ≡ false → IsUnchanged old new
  held-after (inl same) it is = same
  held-after (inr back) it is = absurd (true≢false (sym (held-if auto new.in_transaction tells is) ∙ back.autocommit))

  pub fits-idle : Left → auto ≡ true → Fits (undone form) false new
  fits-idle left is clean opened = let it = left clean opened in idle-after it.0 opened it.1 is

  pub fits-held : Left → auto ≡ false → Fits form begun new
  fits-held left is clean opened = let it = left clean opened in agrees-unchanged form begun old new (held-after it.0 it.1 is) it.1

  -- a transaction that goes on tells that the connection is open
  pub opened-held : (HasCleanDisk new → StaysOrUndoes old new × AgreesWithForm form begun old) → auto ≡ false → HasCleanDisk new → IsTrue new.is_open
  opened-held left is clean = let it = left clean in (held-after it.0 it.1 is).0.is_open

  -- going back leads where it led
  idle-home : (leaves : List (Remains Content)) → StaysOrUndoes old new → IsTrue new.is_open → AgreesWithForm form begun old → auto ≡ true → (store_state (undone form) false new leaves).before ≡ (store_state form begun old leaves).before
  idle-home leaves (inl same) opened it is =
      let none : begun ≡ false = sym it.mode ∙ sym same.0.mode ∙ idle-if auto new.in_transaction tells is in
      ap (λ (db : Database). rows_in (undone form) db.trees) (same.0.now_is ∙ it.settled none) ∙ sym (home form begun old leaves it)
  idle-home leaves (inr back) opened it is =
      ap (λ (db : Database). rows_in (undone form) db.trees) (back.undone opened).0 ∙ sym (home form begun old leaves it)

  module _ (P : Trees → Type 0) (survives : Survives old new P) (leaves : List (Remains Content)) where
    was-clean : Left → (new.is_clean && new.is_open) ≡ true → (old.is_clean && old.is_open) ≡ true
    was-clean left e = let p = both new e in clean-before old new P survives p.0 (was_open old new (left p.0 p.1).0 p.1)

    pub stays-idle : Left → auto ≡ true → Stays (store_state form begun old leaves) (store_state (undone form) false new leaves)
    stays-idle left is = record {
      clean = was-clean left;
      before = λ e. let p = both new e in let it = left p.0 p.1 in idle-home leaves it.0 p.1 it.1 is;
      leaves = leaves-same form (undone form) begun false old new P leaves survives (undone-ready form);
    }

    pub stays-held : Left → auto ≡ false → Stays (store_state form begun old leaves) (store_state form begun new leaves)
    stays-held left is = record {
      clean = was-clean left;
      before = λ e. let p = both new e in let it = left p.0 p.1 in same-before form begun old new leaves (held-after it.0 it.1 is);
      leaves = leaves-same form form begun begun old new P leaves survives refl;
    }

-- a call that changed nothing
pub reads-same : (form : Form) (begun : Bool) (old new : State) (P : Trees → Type 0) (leaves : List (Remains Content)) → Survives old new P → (HasCleanDisk new → IsUnchanged old new) → Reads (store_state form begun old leaves) (store_state form begun new leaves)
reads-same form begun old new P leaves survives same = record {
  clean = λ e. let clean = (both new e).0 in clean-before old new P survives clean (same clean).0.was_open;
  before = λ e. same-before form begun old new leaves (same (both new e).0);
  opened = refl;
  content = λ e. ap (λ (db : Database). rows_in form db.trees) (same (both new e).0).0.now_is;
  answers = λ was e. ap (λ (b : Bool). b && new.is_open) e ∙ (same (honest new e)).0.is_open;
  leaves = leaves-same form form begun begun old new P leaves survives refl;
}

pub recalls-same : (old new : State) (P : Trees → Type 0) (kept : List Answer) → Survives old new P → (HasCleanDisk new → IsUnchanged old new) → Recalls old kept → Recalls new kept
recalls-same old new P kept survives same was clean opened =
    let it = (same clean).0 in
    subst (λ (db : Database). AreRight db.trees kept) (sym it.now_is) (was (was-honest old new P survives clean) it.was_open)

-- ---- a call that changed nothing, or ended what there was, where no transaction is open

module _ (form : Form) (old new : State) (P : Trees → Type 0) (survives : Survives old new P) (fits : Fits form false old) (stood : HasCleanDisk new → StaysOrUndoes old new) where
  was-idle : HasCleanDisk new → IsTrue new.is_open → IsTrue old.is_open × AgreesWithForm form false old
  was-idle clean opened = let was = was_open old new (stood clean) opened in (was, fits (was-honest old new P survives clean) was)

  still-idle : StaysOrUndoes old new → IsTrue new.is_open → AgreesWithForm form false old → AgreesWithForm form false new
  still-idle (inl same) opened it = agrees-unchanged form false old new same it
  still-idle (inr back) opened it = subst (λ (f : Form). AgreesWithForm f false new) (it.making refl) (agrees-back form false old new back opened it)

  still-there : StaysOrUndoes old new → IsTrue new.is_open → AgreesWithForm form false old → new.now ≡ old.now
  still-there (inl same) opened it = same.0.now_is
  still-there (inr back) opened it = (back.undone opened).0 ∙ sym (it.settled refl)

  pub fits-looked : Fits form false new
  fits-looked clean opened = still-idle (stood clean) opened (was-idle clean opened).1

  pub stays-looked : (leaves : List (Remains Content)) → Stays (store_state form false old leaves) (store_state form false new leaves)
  stays-looked leaves = record {
    clean = λ e. let p = both new e in clean-before old new P survives p.0 (was-idle p.0 p.1).0;
    before = λ e. let p = both new e in ap (λ (db : Database). rows_in form db.trees) (still-there (stood p.0) p.1 (was-idle p.0 p.1).1);
    leaves = leaves-same form form false false old new P leaves survives refl;
  }

-- a text that was compiled, or refused
pub prepared : {X : Type 0} (A : X → Type 0) (old new : State) (sql : List ℕ) (r : Result X Error) → (HasCleanDisk new → IfOk r (λ x. A x × IsUnchanged old new)) → (HasCleanDisk new → IfErr r (λ e. (params : Row) → IsNotRun old new sql params e))
    → HasCleanDisk new → StaysOrUndoes old new
prepared A old new sql (Ok x) ok err clean = inl (ok clean).1
prepared A old new sql (Err e) ok err clean = not_run old new sql [] e (err clean [])
