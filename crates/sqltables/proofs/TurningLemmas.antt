-- What beginning, committing and going back leave of a store of rows.
use Rattle.std.proofs.Common.{◌≡◌, ◌⊎◌, ◌&&◌, inl, inr, ℕ, Bool, true, false, List, [], ◌∷◌, ◌++◌, Ok, Err, IsTrue, refl, sym, ap, subst, subst₂, ◌∙◌, arith, true≢false}
use Rattle.sqltables.proofs.Words.{AgreesWithForm, Answer, AreRight, Bears, began, Closes, committed, Content, Database, ended, Error}
use Rattle.sqltables.proofs.Words.{executed_open, Executes, Fails, Fits, Form, Guards, has_rows, HasCleanDisk, holding, IsDatabase, IsLeftAs}
use Rattle.sqltables.proofs.Words.{IsRight, IsSound, lasting, leaves_of, left_in, Made, Making, readiness_of, Recalls, Remains, rows_in, runs_as}
use Rattle.sqltables.proofs.Words.{same_command, Shows, Starts, State, Stays, store_state, Survives, Trees, understood, undone, Unused}
use Rattle.sqltables.proofs.AnswerLemmas.{all-lasting}
use Rattle.sqltables.proofs.StandingLemmas.{agrees-back, both, clean-before, clean-of, guards-on, home, honest, leaves-same, undone-ready, was-honest}
use Rattle.sqlite.specs.State.{IsRolledBack}
use Rattle.sqlrows.specs.inner.Transactions.{begin_text, commit_text}
use Rattle.sqlite_schema.specs.declared.schema.Schema.{Schema}
use Rattle.sqlite_schema.specs.declared.command.Command.TheVariants as command
use Rattle.sqlrows.proofs.SwitchLemmas.{begin_is, commit_is}
use Rattle.sqltables.specs.declared.form.Form.TheVariants.{Other}
use Rattle.states.proofs.LeavingLemmas.{has-alone, has-either, has-front, has-last}
use Rattle.states.specs.States.{Keeps}

bears-committed : (form : Form) (now last : Database) → Bears form now last → Bears (committed form) now now
bears-committed form now last it = grind arith

committed-stays : (form : Form) → undone (committed form) ≡ committed form
committed-stays form = grind arith

committed-rows : (form : Form) (db : Trees) → rows_in (committed form) db ≡ rows_in form db
committed-rows form db = grind arith

-- a database that is kept
kept-as : (form : Form) (now last : Database) → has_rows form ≡ true → Bears form now last → IsDatabase now → IsLeftAs (readiness_of (committed form)) now.trees (rows_in (committed form) now.trees)
kept-as Unused now last rows it sound = absurd (true≢false (sym rows))
kept-as Making now last rows it sound = (subst (λ (s : Schema). IsSound s now.trees) it.0.schema sound, refl)
kept-as Made now last rows it sound = (subst (λ (s : Schema). IsSound s now.trees) it.0.schema sound, refl)
kept-as Other now last rows it sound = absurd (true≢false (sym rows))

pub holding-it : (form : Form) (s : State) → has_rows form ≡ true → left_in (committed form) s ≡ holding (rows_in form s.now.trees)
holding-it form s rows = grind arith

-- ---- what was noted

-- after nothing, one
pub noted-alone : {C : Type 0} (state-of : C → State) (none notes : List (C × Form)) (conn : C) (made form : Form) → none ≡ [] → notes ≡ none ++ (conn, made) ∷ [] → made ≡ form → leaves_of state-of notes ≡ left_in form (state-of conn) ∷ []
noted-alone state-of none notes conn made form empty is same =
    ap (leaves_of state-of) (is ∙ ap (λ l. l ++ (conn, made) ∷ []) empty) ∙ ap (λ f. left_in f (state-of conn) ∷ []) same

noted-last : {C : Type 0} (state-of : C → State) (notes : List (C × Form)) (conn : C) (form : Form) → leaves_of state-of (notes ++ (conn, form) ∷ []) ≡ leaves_of state-of notes ++ left_in form (state-of conn) ∷ []
noted-last state-of [] conn form = refl
noted-last state-of (note ∷ notes) conn form = ap (λ l. left_in note.1 (state-of note.0) ∷ l) (noted-last state-of notes conn form)

-- after others, one more
pub noted-more : {C : Type 0} (state-of : C → State) (before notes : List (C × Form)) (conn : C) (made form : Form) → notes ≡ before ++ (conn, made) ∷ [] → made ≡ form
    → leaves_of state-of notes ≡ leaves_of state-of before ++ left_in form (state-of conn) ∷ []
noted-more state-of before notes conn made form is same =
    ap (leaves_of state-of) is ∙ noted-last state-of before conn made ∙ ap (λ f. leaves_of state-of before ++ left_in f (state-of conn) ∷ []) same

-- ---- a text that went well

begin-shows : (old new : State) (count : ℕ) → Executes begin_text [] old new (Ok count) → Shows old new old.now old.committed true
begin-shows old new count ran = (runs_as begin_text [] old new old.now.schema refl command.Begin (same_command (understood old.now.schema begin_text) ∙ (begin_is old.now.schema).command_is) (begin_is old.now.schema).plain count ran).1

commit-shows : (old new : State) (count : ℕ) → Executes commit_text [] old new (Ok count) → Shows old new old.now old.now false
commit-shows old new count ran = (runs_as commit_text [] old new old.now.schema refl command.Commit (same_command (understood old.now.schema commit_text) ∙ (commit_is old.now.schema).command_is) (commit_is old.now.schema).plain count ran).1

module _ (form : Form) (old new : State) (P : Trees → Type 0) (survives : Survives old new P) (leaves : List (Remains Content)) where
  -- ---- BEGIN
  module _ (fits : Fits form false old) where
    module _ (count : ℕ) (ran : HasCleanDisk new → Executes begin_text [] old new (Ok count)) where
      opened-before : HasCleanDisk new → IsTrue new.is_open → IsTrue old.is_open
      opened-before clean opened = executed_open begin_text [] old new (Ok count) (ran clean) opened

      agreed : HasCleanDisk new → IsTrue new.is_open → AgreesWithForm form false old
      agreed clean opened = fits (was-honest old new P survives clean) (opened-before clean opened)

      shows : HasCleanDisk new → AgreesWithForm form false old → Shows old new old.now old.committed true
      shows clean it = began old new (Ok count) it.mode (ran clean)

      pub fits-begun : Fits form true new
      fits-begun clean opened =
          let it = agreed clean opened in
          let shown = shows clean it in
          record {
            mode = shown.mode;
            bears = subst₂ (Bears form) (sym shown.now_is) (sym shown.committed_is) it.bears;
            settled = λ e. absurd (true≢false e);
            making = λ e. absurd (true≢false e);
          }

      pub guards-begun : ((db : Trees) → P db → ⊥) → Guards false old leaves → Guards true new leaves
      guards-begun none guards =
          guards-on false true old new P leaves survives guards (λ clean _. (begin-shows old new count (ran clean)).is_open)
          (λ clean db may. elim (survives.crash clean db may) [ inl was ↦ was | inr is ↦ absurd (none db is) ])

      pub recalls-begun : (kept : List Answer) → Recalls old kept → Recalls new (lasting kept)
      recalls-begun kept was clean opened =
          subst (λ (db : Database). AreRight db.trees (lasting kept)) (sym (shows clean (agreed clean opened)).now_is)
          (all-lasting (IsRight old.now.trees) kept (was (was-honest old new P survives clean) (opened-before clean opened)))

      pub starts : Starts (store_state form false old leaves) (store_state form true new leaves)
      starts = record {
        clean = λ e. let p = both new e in clean-before old new P survives p.0 (opened-before p.0 p.1);
        before = λ e. let p = both new e in let it = agreed p.0 p.1 in ap (λ (db : Database). rows_in (undone form) db.trees) (shows p.0 it).committed_is ∙ sym (home form false old leaves it);
        opened = refl;
        content = λ e. let p = both new e in ap (λ (db : Database). rows_in form db.trees) (shows p.0 (agreed p.0 p.1)).now_is;
        answers = λ was e. ap (λ (b : Bool). b && new.is_open) e ∙ (begin-shows old new count (ran (honest new e))).is_open;
        leaves = leaves-same form form false true old new P leaves survives refl;
      }

    module _ (e : Error) (ran : HasCleanDisk new → Executes begin_text [] old new (Err e)) where
      was-agreed : HasCleanDisk new → IsTrue new.is_open → AgreesWithForm form false old
      was-agreed clean opened = fits (was-honest old new P survives clean) (executed_open begin_text [] old new (Err e) (ran clean) opened)

      gone : HasCleanDisk new → AgreesWithForm form false old → IsRolledBack old new
      gone clean it = began old new (Err e) it.mode (ran clean)

      pub fits-not-begun : Fits form false new
      fits-not-begun clean opened =
          let it = was-agreed clean opened in
          subst (λ (f : Form). AgreesWithForm f false new) (it.making refl) (agrees-back form false old new (gone clean it) opened it)

      pub stays-not-begun : Stays (store_state form false old leaves) (store_state form false new leaves)
      stays-not-begun = record {
        clean = λ c. let p = both new c in clean-before old new P survives p.0 (executed_open begin_text [] old new (Err e) (ran p.0) p.1);
        before = λ c.
            let p = both new c in
            let it = was-agreed p.0 p.1 in
            ap (λ (db : Database). rows_in form db.trees) ((gone p.0 it).undone p.1).0 ∙ ap (λ (f : Form). rows_in f old.committed.trees) (sym (it.making refl)) ∙ sym (home form false old leaves it);
        leaves = leaves-same form form false false old new P leaves survives refl;
      }

  -- ---- COMMIT
  module _ (fits : Fits form true old) where
    module _ (count : ℕ) (ran : HasCleanDisk new → Executes commit_text [] old new (Ok count)) where
      open-before : HasCleanDisk new → IsTrue new.is_open → IsTrue old.is_open
      open-before clean opened = executed_open commit_text [] old new (Ok count) (ran clean) opened

      agreed-inside : HasCleanDisk new → IsTrue new.is_open → AgreesWithForm form true old
      agreed-inside clean opened = fits (was-honest old new P survives clean) (open-before clean opened)

      kept : HasCleanDisk new → AgreesWithForm form true old → Shows old new old.now old.now false
      kept clean it = ended old new (Ok count) it.mode (ran clean)

      pub fits-committed : Fits (committed form) false new
      fits-committed clean opened =
          let it = agreed-inside clean opened in
          let shown = kept clean it in
          record {
            mode = shown.mode;
            bears = subst₂ (Bears (committed form)) (sym shown.now_is) (sym shown.committed_is) (bears-committed form old.now old.committed it.bears);
            settled = λ _. shown.now_is ∙ sym shown.committed_is;
            making = λ _. committed-stays form;
          }

      pub recalls-committed : (answers : List Answer) → Recalls old answers → Recalls new (lasting answers)
      recalls-committed answers was clean opened =
          subst (λ (db : Database). AreRight db.trees (lasting answers)) (sym (kept clean (agreed-inside clean opened)).now_is)
          (all-lasting (IsRight old.now.trees) answers (was (was-honest old new P survives clean) (open-before clean opened)))

      pub keeps : has_rows form ≡ true → Keeps (store_state form true old leaves) (store_state (committed form) false new (left_in (committed form) old ∷ []))
      keeps rows = record {
        clean = λ e. let p = both new e in clean-before old new P survives p.0 (open-before p.0 p.1);
        closed = refl;
        content = λ e. let p = both new e in committed-rows form new.now.trees ∙ ap (λ (db : Database). rows_in form db.trees) (kept p.0 (agreed-inside p.0 p.1)).now_is;
        answers = λ e. ap (λ (b : Bool). b && new.is_open) e ∙ (commit-shows old new count (ran (honest new e))).is_open;
        honest = λ e. clean-of old (was-honest old new P survives (honest new e));
        answered = λ e. clean-before old new P survives (honest new e) (commit-shows old new count (ran (honest new e))).was_open;
        leaves = λ left h. has-alone (left_in (committed form) old) left h ∙ holding-it form old rows;
        ready = ap (λ (left : Remains Content). left.readiness) (holding-it form old rows);
      }

      -- what the store of the connection keeps true while it is open
      pub guards-committed : has_rows form ≡ true → (IsTrue old.is_open → IsDatabase old.now) → ((db : Trees) → IsTrue new.is_open → new.may_leave db → db ≡ new.committed.trees) → Guards false new (left_in (committed form) old ∷ [])
      guards-committed rows live settled = record {
        opened = λ clean e. absurd (true≢false (sym e));
        covers = λ clean db may.
            let shown = commit-shows old new count (ran clean) in
            let it = fits (was-honest old new P survives clean) shown.was_open in
            let is : old.now.trees ≡ db = sym (settled db shown.is_open may ∙ ap (λ (d : Database). d.trees) shown.committed_is) in
            (left_in (committed form) old, inl refl, subst (λ (d : Trees). IsLeftAs (readiness_of (committed form)) d (rows_in (committed form) old.now.trees)) is (kept-as form old.now old.committed rows it.bears (live shown.was_open)));
      }

    module _ (e : Error) (ran : HasCleanDisk new → Executes commit_text [] old new (Err e)) where
      was-inside : HasCleanDisk new → IsTrue new.is_open → AgreesWithForm form true old
      was-inside clean opened = fits (was-honest old new P survives clean) (executed_open commit_text [] old new (Err e) (ran clean) opened)

      undone-by : HasCleanDisk new → AgreesWithForm form true old → IsRolledBack old new
      undone-by clean it = ended old new (Err e) it.mode (ran clean)

      pub fits-not-committed : Fits (undone form) false new
      fits-not-committed clean opened = let it = was-inside clean opened in agrees-back form true old new (undone-by clean it) opened it

      pub fails : has_rows form ≡ true → Guards true old leaves → Fails (store_state form true old leaves) (store_state (undone form) false new (leaves ++ left_in (committed form) old ∷ []))
      fails rows guards = record {
        clean = λ c. let p = both new c in clean-before old new P survives p.0 (executed_open commit_text [] old new (Err e) (ran p.0) p.1);
        before = λ c. let p = both new c in ap (λ (db : Database). rows_in (undone form) db.trees) ((undone-by p.0 (was-inside p.0 p.1)).undone p.1).0;
        honest = λ c. clean-of old (was-honest old new P survives (honest new c));
        answered = λ c. let clean = honest new c in clean-before old new P survives clean (guards.opened (was-honest old new P survives clean) refl);
        leaves = λ left h. elim (has-either leaves (left_in (committed form) old) left h) [ inl there ↦ inl there | inr is ↦ inr (is ∙ holding-it form old rows) ];
        ready = undone-ready form;
      }

      pub guards-failed : has_rows form ≡ true → Guards true old leaves → (IsTrue old.is_open → IsDatabase old.now) → ((db : Trees) → P db → db ≡ old.now.trees) → Guards false new (leaves ++ left_in (committed form) old ∷ [])
      guards-failed rows guards live only = record {
        opened = λ clean b. absurd (true≢false (sym b));
        covers = λ clean db may.
            let last = left_in (committed form) old in
            let was = was-honest old new P survives clean in
            elim (survives.crash clean db may) [
              | inl before ↦ let it = guards.covers was db before in (it.0, has-front leaves last it.0 it.1, it.2)
              | inr is ↦
                  let opened = guards.opened was refl in
                  (last, has-last leaves last, subst (λ (d : Trees). IsLeftAs (readiness_of (committed form)) d (rows_in (committed form) old.now.trees)) (sym (only db is)) (kept-as form old.now old.committed rows (fits was opened).bears (live opened)))
            ];
      }

-- ---- ROLLBACK
module _ {C : Type 0} (state-of : C → State) (form : Form) (begun : Bool) (old new : C) (P : Trees → Type 0) (survives : Survives (state-of old) (state-of new) P) (fits : Fits form begun (state-of old))
    (does : HasCleanDisk (state-of new) → IsRolledBack (state-of old) (state-of new) ⊎ ((new ≡ old) × ((state-of old).in_transaction ≡ false))) (leaves : List (Remains Content)) where
  abbrev Back : C → Type 0
  Back c = AgreesWithForm (undone form) false (state-of c) × (rows_in (undone form) (state-of c).now.trees ≡ (store_state form begun (state-of old) leaves).before)

  idle-back : (state-of old).in_transaction ≡ false → AgreesWithForm form begun (state-of old) → Back old
  idle-back none it =
      let idle : begun ≡ false = sym it.mode ∙ none in
      let kept : undone form ≡ form = it.making idle in
      (subst₂ (λ (f : Form) (b : Bool). AgreesWithForm f b (state-of old)) (sym kept) idle it, ap (λ (db : Database). rows_in (undone form) db.trees) (it.settled idle) ∙ sym (home form begun (state-of old) leaves it))

  turned : HasCleanDisk (state-of new) → IsTrue (state-of new).is_open → IsTrue (state-of old).is_open × Back new
  turned clean opened = elim (does clean) [
    | inl back ↦
        let was = back.was_open opened in
        let it = fits (was-honest (state-of old) (state-of new) P survives clean) was in
        (was, (agrees-back form begun (state-of old) (state-of new) back opened it, ap (λ (db : Database). rows_in (undone form) db.trees) (back.undone opened).0 ∙ sym (home form begun (state-of old) leaves it)))
    | inr same ↦
        let was = subst (λ (c : C). IsTrue (state-of c).is_open) same.0 opened in
        let it = fits (was-honest (state-of old) (state-of new) P survives clean) was in
        (was, subst Back (sym same.0) (idle-back same.1 it))
  ]

  pub fits-back : Fits (undone form) false (state-of new)
  fits-back clean opened = (turned clean opened).1.0

  pub closes-back : Closes (store_state form begun (state-of old) leaves).before (store_state form begun (state-of old) leaves) (store_state (undone form) false (state-of new) leaves)
  closes-back = record {
    clean = λ e. let p = both (state-of new) e in clean-before (state-of old) (state-of new) P survives p.0 (turned p.0 p.1).0;
    closed = refl;
    content = λ e. let p = both (state-of new) e in (turned p.0 p.1).1.1;
    leaves = leaves-same form (undone form) begun false (state-of old) (state-of new) P leaves survives (undone-ready form);
  }
