-- What making the tables leaves of a store of rows.
use Rattle.std.proofs.Common.{◌≡◌, ◌⊎◌, ◌&&◌, inl, inr, Bool, true, false, List, IsTrue, refl, sym, ap, subst, ◌∙◌, true≢false}
use Rattle.sqltables.proofs.Words.{AgreesWithForm, Content, Database, Fits, Guards, HasCleanDisk, IsContent, IsUndone, Making, no_content}
use Rattle.sqltables.proofs.{Words.{Remains, State, Stays, store_state, Survives, Trees, Unused, Writes}, DecodingLemmas.decoded}
use Rattle.sqltables.proofs.StandingLemmas.{answered-open, both, clean-before, clean-of, guards-on, honest, leaves-same, was-honest}
use Rattle.sqlite.specs.State.{IsRolledBack}
use Rattle.sqlrows.specs.inner.Calls as calls

module _ (old mid : State) (P : Trees → Type 0) (survives : Survives old mid P) (fits : Fits Unused true old) (opens : HasCleanDisk mid → IsTrue mid.is_open → IsTrue old.is_open) (leaves : List (Remains Content)) where
  pub agreed : HasCleanDisk mid → IsTrue mid.is_open → AgreesWithForm Unused true old
  agreed clean opened = fits (was-honest old mid P survives clean) (opens clean opened)

  -- the tables were made
  module _ (made : HasCleanDisk mid → IsTrue old.is_open → AgreesWithForm Unused true old → IsContent no_content mid.now × calls.StaysOpen old mid) where
    pub fits-made : Fits Making true mid
    fits-made clean opened =
        let it = agreed clean opened in
        let m = made clean (opens clean opened) it in
        record {
          mode = m.1.shown.mode;
          bears = (subst (λ (xs : Content). IsContent xs mid.now) (sym (decoded no_content mid.now m.0)) m.0, ap (λ (db : Database). db.schema) m.1.shown.committed_is ∙ it.bears.1);
          settled = λ e. absurd (true≢false e);
          making = λ e. absurd (true≢false e);
        }

    pub makes-made : Writes no_content (store_state Unused true old leaves) (store_state Making true mid leaves)
    makes-made = record {
      clean = λ e. let p = both mid e in clean-before old mid P survives p.0 (opens p.0 p.1);
      before = λ e. refl;
      opened = refl;
      content = λ e. let p = both mid e in decoded no_content mid.now (made p.0 (opens p.0 p.1) (agreed p.0 p.1)).0;
      answers = λ was e.
          let clean = honest mid e in
          let before = answered-open old mid P survives was clean in
          ap (λ (b : Bool). b && mid.is_open) e ∙ (made clean before (fits (was-honest old mid P survives clean) before)).1.shown.is_open;
      leaves = leaves-same Unused Making true true old mid P leaves survives refl;
    }

    pub guards-made : (HasCleanDisk mid → IsTrue old.is_open → AgreesWithForm Unused true old → (db : Trees) → mid.may_leave db → old.may_leave db ⊎ ⊥) → Guards true old leaves → Guards true mid leaves
    guards-made crash guards =
        guards-on true true old mid P leaves survives guards
        (λ clean _. let was = guards.opened (was-honest old mid P survives clean) refl in (made clean was (fits (was-honest old mid P survives clean) was)).1.shown.is_open)
        (λ clean db may. let was = guards.opened (was-honest old mid P survives clean) refl in elim (crash clean was (fits (was-honest old mid P survives clean) was) db may) [ inl before ↦ before | inr none ↦ absurd none ])

  -- they weren't, and what was begun is undone
  module _ (failed : HasCleanDisk mid → IsTrue old.is_open → AgreesWithForm Unused true old → calls.StaysOpen old mid ⊎ IsUndone old mid) (new : State) (Q : Trees → Type 0) (later : Survives mid new Q)
      (does : HasCleanDisk new → IsTrue new.is_open → IsTrue mid.is_open × (((new.now ≡ mid.committed) × (new.committed ≡ mid.committed) × (new.in_transaction ≡ false)) ⊎ ((new.now ≡ mid.now) × (new.committed ≡ mid.committed) × (new.in_transaction ≡ false) × (mid.in_transaction ≡ false)))) where
    last-commit : (HasCleanDisk mid) → IsTrue mid.is_open → mid.committed ≡ old.committed
    last-commit clean opened = elim (failed clean (opens clean opened) (agreed clean opened)) [ inl on ↦ on.shown.committed_is | inr off ↦ (off.undone opened).1 ]

    idle-now : HasCleanDisk mid → IsTrue mid.is_open → mid.in_transaction ≡ false → mid.now ≡ old.committed
    idle-now clean opened idle = elim (failed clean (opens clean opened) (agreed clean opened)) [ inl on ↦ absurd (true≢false (sym on.shown.mode ∙ idle)) | inr off ↦ (off.undone opened).0 ]

    home-again : HasCleanDisk new → IsTrue new.is_open → (new.now ≡ old.committed) × (new.committed ≡ old.committed) × (new.in_transaction ≡ false)
    home-again clean opened =
        let was = was-honest mid new Q later clean in
        let it = does clean opened in
        elim it.1 [
          | inl back ↦ (back.0 ∙ last-commit was it.0, back.1 ∙ last-commit was it.0, back.2)
          | inr same ↦ (same.0 ∙ idle-now was it.0 same.3, same.1 ∙ last-commit was it.0, same.2)
        ]

    pub fits-unmade : Fits Unused false new
    fits-unmade clean opened =
        let it = home-again clean opened in
        let was = agreed (was-honest mid new Q later clean) (does clean opened).0 in
        let none = was.bears.1 in
        record {
          mode = it.2;
          bears = (ap (λ (db : Database). db.schema) it.0 ∙ none, ap (λ (db : Database). db.schema) it.1 ∙ none);
          settled = λ _. it.0 ∙ sym it.1;
          making = λ _. refl;
        }

    pub stays-unmade : Stays (store_state Unused true old leaves) (store_state Unused false new leaves)
    stays-unmade = record {
      clean = λ e.
          let p = both new e in
          let was = was-honest mid new Q later p.0 in
          clean-before old mid P survives was (opens was (does p.0 p.1).0);
      before = λ e. refl;
      leaves = record {
        honest = λ e. clean-of old (was-honest old mid P survives (was-honest mid new Q later (honest new e)));
        same = refl;
        ready = refl;
      };
    }

    pub guards-unmade : (HasCleanDisk mid → IsTrue old.is_open → AgreesWithForm Unused true old → (db : Trees) → mid.may_leave db → old.may_leave db ⊎ ⊥) → ((db : Trees) → Q db → ⊥) → Guards true old leaves → Guards false new leaves
    guards-unmade crash none guards = record {
      opened = λ clean e. absurd (true≢false (sym e));
      covers = λ clean db may.
          let mid-clean = was-honest mid new Q later clean in
          let old-clean = was-honest old mid P survives mid-clean in
          let was = guards.opened old-clean refl in
          elim (later.crash clean db may) [
            | inl in-mid ↦ elim (crash mid-clean was (fits old-clean was) db in-mid) [ inl before ↦ guards.covers old-clean db before | inr less ↦ absurd less ]
            | inr is ↦ absurd (none db is)
          ];
    }

-- what going back does, whether a transaction was open or not
pub back-or-same : {C : Type 0} (state-of : C → State) (mid new : C) → (HasCleanDisk (state-of new) → IsRolledBack (state-of mid) (state-of new) ⊎ ((new ≡ mid) × ((state-of mid).in_transaction ≡ false)))
    → HasCleanDisk (state-of new) → IsTrue (state-of new).is_open
    → IsTrue (state-of mid).is_open
    × ((((state-of new).now ≡ (state-of mid).committed) × ((state-of new).committed ≡ (state-of mid).committed) × ((state-of new).in_transaction ≡ false))
    ⊎ (((state-of new).now ≡ (state-of mid).now) × ((state-of new).committed ≡ (state-of mid).committed) × ((state-of new).in_transaction ≡ false) × ((state-of mid).in_transaction ≡ false)))
back-or-same state-of mid new does clean opened = elim (does clean) [
  | inl back ↦ (back.was_open opened, inl ((back.undone opened).0, (back.undone opened).1, back.autocommit))
  | inr same ↦ (
    subst (λ c. IsTrue (state-of c).is_open) same.0 opened,
    inr (ap (λ c. (state-of c).now) same.0, ap (λ c. (state-of c).committed) same.0, ap (λ c. (state-of c).in_transaction) same.0 ∙ same.1, same.1),
  )
]
