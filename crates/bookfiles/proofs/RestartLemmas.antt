-- A book that was adopted is found as it is, and a crash leaves nothing else of it.
use Rattle.std.proofs.Common.{◌≡◌, ◌&&◌, ℕ, true, false, List, [], ◌∷◌, map, Result, Ok, Err, IfOk, refl, sym, ap, subst, ◌∙◌}
use Rattle.std.proofs.{Math.Logic.∥∥₁_map, lemmas.Bool.and_parts}
use Rattle.sqlite_disk.specs.declared.Disk.{Ghosts}
use Rattle.sqlite_wal.specs.Recovery.{Image}
use Rattle.sqlite_trees.specs.Tree.{Trees}
use Rattle.sqlite.specs.{Start.FindsIn, State.{State, HasCleanDisk}}
use Rattle.policy.specs.Rules.{PolicyRules}
use Rattle.registry.specs.Opening.{Opens}
use Rattle.runs.specs.Crashes.{Happens, answered, crash, opening}
use Rattle.books.specs.{Book.{BookState, Follows, LeavesItself, may_leave}, Reopening.{IsBook, LeavesFound}}
use Rattle.sqltables.specs.{Adoption.IsAdopted, Content.Content}
use Rattle.states.specs.{States.{Has, Remains, StateOf}, declared.readiness.Ready.Ready}
use Rattle.states.proofs.LeavingLemmas.{has-alone}
use Rattle.sqlbook.specs.{Beginning.IsTakenFrom, Files.AreTakenIn, Meaning.{are_right, stored_of}, AsBook.{are_all_right, remains_meant}}
use Rattle.sqlbook.proofs.BeginningLemmas.{rows_new}
use Rattle.bookfiles.specs.Restarts.{IsOpenedIn, NewFilesAreBooks, RestartsAreEvents, StopsAreCrashes, book_of}

pub leaves-found : (trees : Trees) (rows : StateOf Content) (refused : ℕ) → IsAdopted trees rows → LeavesFound (book_of rows refused)
unfolding may_leave
leaves-found trees rows refused adopted left may =
    let parts = and_parts rows.is_honest (are_all_right are_right rows.crash_leaves) may.0 in
    let clean : rows.is_clean ≡ true = adopted.answers parts.0 in
    let it : Remains Content = record { readiness = rows.readiness; content = rows.content } in
    let alone : rows.crash_leaves ≡ it ∷ [] = adopted.leaves clean in
    let right : are_right rows.content ≡ true = (and_parts (are_right rows.content) true (subst (λ (leaves : List (Remains Content)). are_all_right are_right leaves ≡ true) alone parts.1)).0 in (
      ap (λ b. b && are_right rows.before) clean ∙ ap are_right adopted.before ∙ right,
      has-alone (remains_meant stored_of it) left (subst (λ (leaves : List (Remains Content)). Has (map (remains_meant stored_of) leaves) left) alone may.1),
    )

pub stops-are-crashes : {D : Type 0} (g : Ghosts D) → StopsAreCrashes g
stops-are-crashes g files old image rows refused left honest may taken clean =
    ∥∥₁_map (left image may taken.trees taken.found rows refused taken.adopted clean) (λ found. (honest, found, leaves-found taken.trees rows refused taken.adopted))

pub restarts-are-events : {D : Type 0} (g : Ghosts D) → RestartsAreEvents g
restarts-are-events g files old image p new left honest may opened sure =
    let clean : new.is_clean ≡ true = opened.leaves.answers sure in
    let was : (book_of opened.rows opened.refused).is_clean ≡ true = opened.follows.clean clean in
    let rows : opened.rows.is_clean ≡ true = (and_parts opened.rows.is_clean (are_right opened.rows.before) was).0 in
    let opens : Happens (answered (opening p)) (book_of opened.rows opened.refused) new =
    (opened.follows, λ e. (opened.opens.fits e, opened.opens.content e), opened.leaves) in
    (book_of opened.rows opened.refused, stops-are-crashes g files old image opened.rows opened.refused left honest may (opened.taken rows) rows, (new, ∣ opens ∣₁, refl))

-- a book that nothing was ever put into
pub new-files-are-books : NewFilesAreBooks
new-files-are-books image rows refused taken none =
    let it = taken.first none in
    record {
      is = λ e. subst (λ (r : Ready). IsBook r (stored_of rows.content)) (sym it.0) (ap stored_of it.1);
      leaves = leaves-found taken.trees rows refused taken.adopted;
    }

-- ---- what the functions give

pub idle_in : {A E : Type 0} (result : Result A E) (stood : A → BookState) (trees : Trees) → IfOk result (λ it. IsTakenFrom trees (stood it)) → IfOk result (λ it. (stood it).is_open ≡ false)
idle_in (Ok it) stood trees taken = taken.idle
idle_in (Err fault) stood trees taken = tt

pub taken_in : {A E : Type 0} (result : Result A E) (rows : A → StateOf Content) (image : Image) (conn : State) → (HasCleanDisk conn → FindsIn image conn)
    → IfOk result (λ it. IsAdopted conn.committed.trees (rows it)) → IfOk result (λ it. (rows it).is_clean ≡ true → HasCleanDisk conn)
    → IfOk result (λ it. (rows it).is_clean ≡ true → AreTakenIn image (rows it))
taken_in (Ok it) rows image conn finds adopted honest = λ clean.
    let found : FindsIn image conn = finds (honest clean) in
    record { trees = conn.committed.trees; found = found.holds; reads = found.reads; adopted = adopted; first = rows_new conn.committed.trees (rows it) adopted clean }
taken_in (Err fault) rows image conn finds adopted honest = tt

pub opened_in : {A E : Type 0} (result : Result A E) (stood : A → BookState) (image : Image) (p : PolicyRules) (rows : StateOf Content) (refused : ℕ) → (rows.is_clean ≡ true → AreTakenIn image rows)
    → IfOk result (λ it. Opens p (book_of rows refused) (stood it)) → IfOk result (λ it. LeavesItself (stood it)) → IfOk result (λ it. Follows (book_of rows refused) (stood it))
    → IfOk result (λ it. IsOpenedIn image p (stood it))
opened_in (Ok it) stood image p rows refused taken opens leaves follows = record { rows = rows; refused = refused; taken = taken; opens = opens; leaves = leaves; follows = follows }
opened_in (Err fault) stood image p rows refused taken opens leaves follows = tt
