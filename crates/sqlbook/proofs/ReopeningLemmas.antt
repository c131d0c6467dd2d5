-- What a crash left of a book is found again.
use Rattle.std.proofs.Common.{◌≡◌, ◌&&◌, inl, inr, ℕ, true, List, [], ◌∷◌, map, Option, Some, None, refl, sym, ap, subst, ◌∙◌}
use Rattle.std.proofs.Math.Logic.{∥∥₁_map}
use Rattle.sqlbook.proofs.Words.{and_parts, are_all_right, are_right, as_book, Content, Covers, is_numbered, may_be_numbered, MetaRow, Remains}
use Rattle.sqlbook.proofs.Words.{remains_meant, StateOf, stored_of, terms_of_rows}
use Rattle.sqlite_disk.specs.declared.Disk.{Ghosts}
use Rattle.sqlite_wal.specs.Recovery.{Image}
use Rattle.sqlite_trees.specs.Tree.{Trees}
use Rattle.sqlite_store.specs.{declared.store.FileStore.FileStore, FileStore.{recovers, view}}
use Rattle.sqlite_store.specs.FileStore as files
use Rattle.sqlite.specs.Held.{AreDatabases}
use Rattle.sqlite.proofs.Theorems.{opens_again}
use Rattle.std.specs.Bool.{IsTrue}
use Rattle.policy.specs.declared.terms.Terms.{Terms}
use Rattle.books.specs.{Kept.book_state, Reopening.{IsFoundAgain, IsReopened}}
use Rattle.sqlobjects.proofs.VerdictLemmas.{each-passes}
use Rattle.sqltables.specs.Adoption.{IsAdopted}
use Rattle.sqltables.specs.inner.Reopening as rows
use Rattle.sqltables.proofs.ReopeningLemmas.{reopened}
use Rattle.states.specs.{declared.readiness.Ready.{Ready, TheVariants.{Empty, Used, Other}}, States.Has}
use Rattle.sqlbook.specs.Files.{IsFoundIn}

has-meant : (leaves : List (Remains Content)) (left : Remains Content) → Has leaves left → Has (map (remains_meant stored_of) leaves) (remains_meant stored_of left)
has-meant [] left h = absurd h
has-meant (one ∷ leaves) left (inl is) = inl (ap (remains_meant stored_of) is)
has-meant (one ∷ leaves) left (inr h) = inr (has-meant leaves left h)

-- a registry that was opened has a row of meta, so the row has the number
pub numbered-if : (xs : Content) (terms : Terms) (metas : List MetaRow) → xs.metas ≡ metas → may_be_numbered metas ≡ true → terms_of_rows xs ≡ Some terms → is_numbered metas ≡ true
numbered-if xs terms [] is e some = absurd (let never : ◌≡◌ {A = Option Terms} None (Some terms) = sym (ap (λ rows. terms_of_rows (record xs { metas = rows })) is) ∙ some in cc)
numbered-if xs terms (meta ∷ more) is e some = e

found-again : (new : StateOf Content) (refused : ℕ) (left : Remains Content) → are_right left.content ≡ true → new.is_clean ≡ true → new.before ≡ new.content
    → rows.IsContentFoundAgain left.readiness left.content new.readiness new.content → IsFoundAgain left.readiness (stored_of left.content) (book_state (as_book stored_of are_right new) refused)
found-again new refused left right clean home found = go left.readiness found
  where
    consistent : new.content ≡ left.content → (new.is_clean && are_right new.before) ≡ true
    consistent same = ap (λ b. b && are_right new.before) clean ∙ ap are_right (home ∙ same) ∙ right

    go : (r : Ready) → rows.IsContentFoundAgain r left.content new.readiness new.content → IsFoundAgain r (stored_of left.content) (book_state (as_book stored_of are_right new) refused)
    go Empty it = record { ready = it.0; content = ap stored_of it.1; clean = consistent it.1 }
    go Used it = λ terms some.
        let same = it (numbered-if left.content terms left.content.metas refl (and_parts (may_be_numbered left.content.metas) _ right).0 some) in
        record { ready = same.0; content = ap stored_of same.1; clean = consistent same.1 }
    go Other it = tt

-- From one run to the next: what a crash might have left of a book is found, where the database that is
-- adopted is one that the connection of the other allowed.
pub book-reopened : (old : StateOf Content) (may_leave : Trees → Type 0) (refused again : ℕ) → Covers old.crash_leaves may_leave → (as_book stored_of are_right old).is_honest ≡ true
    → (trees : Trees) → may_leave trees → (new : StateOf Content) → IsAdopted trees new → new.is_clean ≡ true
    → IsReopened (book_state (as_book stored_of are_right old) refused) (book_state (as_book stored_of are_right new) again)
book-reopened old may_leave refused again covers honest trees may new adopted sure =
    let it = reopened old.crash_leaves may_leave trees new covers may adopted sure in
    let right = each-passes (λ (left : Remains Content). are_right left.content) old.crash_leaves (and_parts old.is_honest (are_all_right are_right old.crash_leaves) honest).1 it.0 it.1 in
    (remains_meant stored_of it.0, has-meant old.crash_leaves it.0 it.1, found-again new again it.0 right sure adopted.before it.2)

-- The same of files: where they hold what a crash could leave, and were opened, and adopted.
pub file-reopened : {D : Type 0} {g : Ghosts D} (it : FileStore D g) → IsTrue (view it).is_numbered → AreDatabases (recovers it)
    → (old : StateOf Content) (refused again : ℕ) → Covers old.crash_leaves (recovers it) → (as_book stored_of are_right old).is_honest ≡ true
    → (image : Image) → (files.state it).may_leave image → (trees : Trees) → IsFoundIn image trees → (new : StateOf Content) → IsAdopted trees new → new.is_clean ≡ true
    → ∥ IsReopened (book_state (as_book stored_of are_right old) refused) (book_state (as_book stored_of are_right new) again) ∥₁
file-reopened it numbered sound old refused again covers honest image may trees found new adopted sure =
    ∥∥₁_map (opens_again it numbered sound image may) (λ db. book-reopened old (recovers it) refused again covers honest trees (subst (recovers it) (sym (found db.0 db.2)) db.1) new adopted sure)
