-- What a crash leaves of the files of a takeover.
use Rattle.std.proofs.Common.{◌≡◌, ◌⊎◌, inl, inr, true, List, [], Some, Result, Ok, Err, IsTrue, refl, sym, ap, subst, ◌∙◌}
use Rattle.std.proofs.{Math.Logic.∥∥₁_map, lemmas.Bool.and_parts}
use Rattle.sqlite_disk.specs.declared.Disk.{Ghosts}
use Rattle.sqlite_wal.specs.Recovery.{Image}
use Rattle.sqlite_trees.specs.Tree.{Trees}
use Rattle.sqlite_store.specs.{declared.store.FileStore.FileStore, FileStore.{recovers, view}}
use Rattle.sqlite_store.specs.FileStore as files
use Rattle.sqlite.specs.Held.{AreDatabases}
use Rattle.sqlite.proofs.Theorems.{opens_again}
use Rattle.policy.specs.{declared.terms.Terms.Terms, Rules.PolicyRules}
use Rattle.books.specs.Book.{Stored}
use Rattle.oldrows.specs.{Stored.OldState, inner.Stored.{CoversOld, IsLeftAsOld}}
use Rattle.oldrows.specs.Stored as old
use Rattle.sqltables.specs.{Adoption.IsAdopted, Content.Content, Readiness.{is_numbered, may_be_numbered}}
use Rattle.sqltables.specs.inner.Reopening.{IsContentFoundAgain, AreRowsReopened}
use Rattle.sqltables.specs.Stored as stored
use Rattle.sqltables.proofs.ReopeningLemmas.{reopened}
use Rattle.sqlbook.specs.{Files.IsFoundIn, Meaning.{are_right, stored_of}}
use Rattle.states.specs.{States.{Has, Remains, StateOf}, declared.readiness.Ready.Ready}
use Rattle.states.proofs.LeavingLemmas.{has-alone}
use Rattle.takeover.specs.declared.migrating.MigrateFault.{MigrateFault, TheVariants.{Policy, Schema, Memory, Store}}
use Rattle.takeover.specs.Files.{IsAsBefore, IsThereAfter, IsFoundComplete, NewFilesHoldAllOrNothing, OldFilesStay}
use Rattle.takeover.specs.Migrating.{IsAll, IsTried, Migrates, numbered_anew, with_days}
use Rattle.sqlbook.proofs.ReopeningLemmas.{numbered-if}

-- ---- what the files may hold

module _ {D : Type 0} {g : Ghosts D} (it : FileStore D g) (numbered : IsTrue (view it).is_numbered) (sound : AreDatabases (recovers it)) (image : Image) (may : (files.state it).may_leave image) (trees : Trees) (found : IsFoundIn image trees) where
  pub old-found : (leaves : List (Remains Content)) → CoversOld leaves (recovers it) → ∥ ((left : Remains Content) × Has leaves left × IsLeftAsOld left trees) ∥₁
  old-found leaves covers = ∥∥₁_map (opens_again it numbered sound image may) (λ db. covers trees (subst (recovers it) (sym (found db.0 db.2)) db.1))

  pub new-found : (leaves : List (Remains Content)) → stored.Covers leaves (recovers it) → (again : StateOf Content) → IsAdopted trees again → again.is_clean ≡ true → ∥ AreRowsReopened leaves again ∥₁
  new-found leaves covers again taken clean =
      ∥∥₁_map (opens_again it numbered sound image may) (λ db. reopened leaves (recovers it) trees again covers (subst (recovers it) (sym (found db.0 db.2)) db.1) taken clean)

-- ---- the law

pub old-files-stay : {D : Type 0} (g : Ghosts D) → OldFilesStay g
old-files-stay g files found from read it reads honest over image may trees opened =
    ∥∥₁_map (over image may trees opened)
    (λ h. (h.0, it.leaves (it.answers (reads.honest honest)) h.0 (subst (λ (l : List (Remains Content)). Has l h.0) reads.leaves h.1), h.2))

module _ (p : PolicyRules) (from : OldState) (to again : StateOf Content) (right : are_right (numbered_anew from.content) ≡ true) (terms : Terms) (some : (stored_of from.content).terms ≡ Some terms) where
  -- what is found where all was left
  consistent : (left : Remains Content) → IsAll p from.content left → IsContentFoundAgain left.readiness left.content again.readiness again.content → IsFoundComplete p from again
  consistent left all found =
      let there : (stored_of left.content).terms ≡ Some (record terms { days = p.days }) =
      ap (λ (s : Stored). s.terms) all.1.0 ∙ ap (with_days p) some in
      let number = numbered-if left.content (record terms { days = p.days }) left.content.metas refl (and_parts (may_be_numbered left.content.metas) _ (all.1.1 ∙ right)).0 there in
      let same = subst (λ (r : Ready). IsContentFoundAgain r left.content again.readiness again.content) all.0 found number in
      (same.0, ap stored_of same.1 ∙ all.1.0)

  -- what is found where what was there before was left
  as-before : (place : Trees) → IsAdopted place to → to.is_clean ≡ true → (left : Remains Content) → Has to.crash_leaves left → IsContentFoundAgain left.readiness left.content again.readiness again.content → IsAsBefore to again
  as-before place taken clean left h found =
      let it : Remains Content = record { readiness = to.readiness; content = to.content } in
      let is : left ≡ it = has-alone it left (subst (λ (l : List (Remains Content)). Has l left) (taken.leaves clean) h) in
      subst (λ (l : Remains Content). IsContentFoundAgain l.readiness l.content again.readiness again.content) is found

  module _ (read : OldState) (written : StateOf Content) (answers : old.Answers from) (honest : read.is_honest ≡ true) (place : Trees) (taken : IsAdopted place to) (sure : written.is_honest ≡ true) (it : AreRowsReopened written.crash_leaves again) where
    unchanged : written.crash_leaves ≡ to.crash_leaves → to.is_honest ≡ true → IsAsBefore to again
    unchanged same was = as-before place taken (taken.answers was) it.0 (subst (λ (l : List (Remains Content)). Has l it.0) same it.1) it.2

    tried : IsTried p from read to written → IsAsBefore to again ⊎ IsFoundComplete p from again
    tried t = elim (t.leaves answers honest sure it.0 it.1) [
      | inl before ↦ inl (as-before place taken (taken.answers (t.honest sure)) it.0 before it.2)
      | inr all ↦ inr (consistent it.0 all.1 it.2)
    ]

    pub there-after : (result : Result (Unit {0}) MigrateFault) → Migrates result p from read to written → IsThereAfter result p from to again
    there-after (Ok done) m = consistent it.0 (m.leaves (m.asked.answers answers honest) sure it.0 it.1) it.2
    there-after (Err Policy) m = unchanged m.back.leaves.same (m.back.leaves.honest sure)
    there-after (Err Schema) m = unchanged m.back.leaves.same (m.back.leaves.honest sure)
    there-after (Err Memory) m = tried m
    there-after (Err Store) m = tried m

pub new-files : {D : Type 0} (g : Ghosts D) → NewFilesHoldAllOrNothing g
new-files g files p place from read to written result m answers honest taken sure right terms some over image may trees opened again adopted clean =
    ∥∥₁_map (over image may trees opened again adopted clean) (λ it. there-after p from to again right terms some read written answers honest place taken sure it result m)
