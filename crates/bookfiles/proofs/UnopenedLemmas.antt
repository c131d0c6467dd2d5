-- What an opening that failed gives back, and what it comes to.
use Rattle.std.proofs.Common.{◌≡◌, ℕ, true, false, Option, Some, None, Result, Ok, Err, IfErr, IfOk, IfSome, inl, inr, refl, sym, ap, subst, ◌∙◌}
use Rattle.std.proofs.{Math.Logic.∥∥₁_map, lemmas.{Bool.and_parts, Result.IfErr-weaker}}
use Rattle.sqlite_disk.specs.declared.Disk.{Ghosts}
use Rattle.sqlite_wal.specs.Recovery.{Image}
use Rattle.sqlite_trees.specs.Tree.{Trees}
use Rattle.sqlite.specs.{Start.FindsIn, State.{State, HasCleanDisk}}
use Rattle.policy.specs.Rules.{PolicyRules}
use Rattle.registry.specs.{Calls.IsRefused, Crashes.RefusedTo, declared.fault.OpenFault.OpenFault}
use Rattle.registry.specs.declared.fault.OpenFault.TheVariants as refusals
use Rattle.sqlrows.specs.Columns.{no_schema}
use Rattle.runs.specs.Crashes.{crash}
use Rattle.runs.proofs.CrashLemmas.{refused-opening}
use Rattle.books.specs.Book.{BookState, Stored, may_leave}
use Rattle.sqltables.specs.{Adoption.{IsAdopted, IsSameRegistry, IsTakenAs, LeavesAsFound}, Content.Content}
use Rattle.sqltables.specs.{Readiness.{IsKnownAs, is_numbered}, Tables.registry, declared.adoption.Unadopted.Unadopted}
use Rattle.sqltables.specs.declared.adoption.Unadopted.TheVariants as unadopted
use Rattle.sqltables.proofs.AdoptedLemmas.{schema_once, some-tables}
use Rattle.states.specs.declared.{fault.BookFault.BookFault, readiness.Ready.{Ready, TheVariants.{Empty, Used, Other}}}
use Rattle.states.specs.States.{Remains, StateOf}
use Rattle.sqlbook.specs.{Files.AreTakenIn, Meaning.are_right, AsBook.are_all_right}
use Rattle.bookfiles.specs.Restarts.{book_of}
use Rattle.bookfiles.specs.Unopened.{FailuresGoUnnoticed, GivesBack, IsLeftAsFound, IsRefusedIn, RefusalsAreEvents, never_for, or_cause, or_database, unconnected}
use Rattle.bookfiles.specs.declared.unopened.Unopened.{Unopened, TheVariants.{Path, Files, Database, Book}}
use Rattle.bookfiles.proofs.RestartLemmas.{leaves-found, stops-are-crashes}

-- ---- what is given back

pub some-weaker : {A : Type 0} (o : Option A) (P Q : A → Type 0) → ((x : A) → P x → Q x) → IfSome o P → IfSome o Q
some-weaker None P Q f it = tt
some-weaker (Some x) P Q f it = f x it

pub gives-back : {L W B : Type 0} (P P′ : BookFault → L → Type 0) (Q Q′ : Unadopted → W → Type 0) (R R′ : OpenFault → B → Type 0)
    → ((fault : BookFault) (x : L) → P fault x → P′ fault x) → ((cause : Unadopted) (x : W) → Q cause x → Q′ cause x) → ((fault : OpenFault) (x : B) → R fault x → R′ fault x)
    → (left : Unopened L W B) → GivesBack P Q R left → GivesBack P′ Q′ R′ left
gives-back P P′ Q Q′ R R′ f g h (Path cause) it = tt
gives-back P P′ Q Q′ R R′ f g h (Files fault left) it = f fault left it
gives-back P P′ Q Q′ R R′ f g h (Database cause store) it = g cause store it
gives-back P P′ Q Q′ R R′ f g h (Book fault book) it = h fault book it

pub unconnected-left : {L W B : Type 0} (fault : BookFault) (left : Option L) (P : BookFault → L → Type 0) (Q : Unadopted → W → Type 0) (R : OpenFault → B → Type 0) → IfSome left (P fault) → GivesBack P Q R (unconnected fault left)
unconnected-left fault None P Q R it = tt
unconnected-left fault (Some left) P Q R it = it

pub database-left : {T L W B : Type 0} (taken : Result T (Unadopted × W)) (result : Result T (Unopened L W B)) (P : BookFault → L → Type 0) (Q : Unadopted → W → Type 0) (R : OpenFault → B → Type 0)
    → result ≡ or_database taken → IfErr taken (λ e. Q e.0 e.1) → IfErr result (GivesBack P Q R)
database-left {T} {L} {W} {B} (Ok it) result P Q R is left = subst (λ (r : Result T (Unopened L W B)). IfErr r (GivesBack P Q R)) (sym is) tt
database-left {T} {L} {W} {B} (Err (cause, store)) result P Q R is left = subst (λ (r : Result T (Unopened L W B)). IfErr r (GivesBack P Q R)) (sym is) left

pub book-taken : {T L W B : Type 0} (taken : Result T (Unadopted × W)) (result : Result T (Unopened L W B)) (P : T → Type 0) → result ≡ or_database taken → IfOk taken P → IfOk result P
book-taken {T} {L} {W} {B} (Ok it) result P is holds = subst (λ (r : Result T (Unopened L W B)). IfOk r P) (sym is) holds
book-taken {T} {L} {W} {B} (Err e) result P is holds = subst (λ (r : Result T (Unopened L W B)). IfOk r P) (sym is) tt

pub cause-alone : {T L W B : Type 0} (opened : Result T (Unopened L W B)) (result : Result T OpenFault) (P : T → Type 0) → result ≡ or_cause opened → IfOk opened P → IfOk result P
cause-alone {T} (Ok it) result P is holds = subst (λ (r : Result T OpenFault). IfOk r P) (sym is) holds
cause-alone {T} (Err left) result P is holds = subst (λ (r : Result T OpenFault). IfOk r P) (sym is) tt

-- a store from which no book was taken
pub left-as-found : {T W : Type 0} (result : Result T (Unadopted × W)) (Clean : W → Type 0) (may_be_left : W → Trees → Type 0) (image : Image) (conn : State) → (HasCleanDisk conn → FindsIn image conn)
    → IfErr result (λ e. Clean e.1 → HasCleanDisk conn) → IfErr result (λ e. Clean e.1 → LeavesAsFound conn.committed.trees (may_be_left e.1))
    → IfErr result (λ e. e.0 ≡ unadopted.Other → Clean e.1 → IsKnownAs Other conn.committed.trees)
    → IfErr result (λ e. Clean e.1 → IsLeftAsFound image e.0 (may_be_left e.1))
left-as-found (Ok it) Clean may_be_left image conn finds was leaves others = tt
left-as-found (Err e) Clean may_be_left image conn finds was leaves others = λ clean.
    let found : FindsIn image conn = finds (was clean) in
    record { trees = conn.committed.trees; found = found.holds; reads = found.reads; leaves = leaves clean; other = λ other. others other clean }

-- a book that was refused
pub refused-in : {A L W B : Type 0} (result : Result A (Unopened L W B)) (P : BookFault → L → Type 0) (Q : Unadopted → W → Type 0) (stood : B → BookState) (image : Image) (p : PolicyRules) (rows : StateOf Content) (refused : ℕ)
    → (rows.is_clean ≡ true → AreTakenIn image rows) → (rows.is_honest ≡ true → rows.is_clean ≡ true) → (book_of rows refused).is_open ≡ false
    → IfErr result (GivesBack never_for never_for (λ fault book. IsRefused fault p (book_of rows refused) (stood book)))
    → IfErr result (GivesBack P Q (λ fault book. IsRefusedIn image p fault (stood book)))
refused-in result P Q stood image p rows refused taken answers idle =
    IfErr-weaker result _ _ (gives-back never_for P never_for Q _ _ (λ why x it. absurd it) (λ cause x it. absurd it)
    (λ fault book it. record { rows = rows; refused = refused; taken = taken; answers = answers; idle = idle; refuses = it }))

-- ---- what it comes to

taken-of-same : (r : Ready) (was db : Trees) (x : Content) → IsSameRegistry was db → IsTakenAs r db x → IsTakenAs r was x
taken-of-same Used was db x same it = (it.0 ∙ same.rows, it.1)
taken-of-same Empty was db x same it = it
taken-of-same Other was db x same it = it

known-of-same : (r : Ready) (was db : Trees) → IsSameRegistry was db → IsKnownAs r db → IsKnownAs r was
known-of-same Used was db same it = (same.had, ap (λ (xs : Content). is_numbered xs.metas) (sym same.rows) ∙ it.1)
known-of-same Empty was db same it = absurd (some-tables (schema_once db registry no_schema same.has it))
known-of-same Other was db same it = (
  (λ none. some-tables (schema_once was registry no_schema same.had none)),
  λ ours. ap (λ (xs : Content). is_numbered xs.metas) (sym same.rows) ∙ it.1 same.has,
)

-- rows that were adopted of the same registry
adopted-of-same : (was db : Trees) (rows : StateOf Content) → IsSameRegistry was db → IsAdopted db rows → IsAdopted was rows
adopted-of-same was db rows same it = record {
  idle = it.idle;
  before = it.before;
  content = λ clean. taken-of-same rows.readiness was db rows.content same (it.content clean);
  known = λ clean. known-of-same rows.readiness was db same (it.known clean);
  answers = it.answers;
  leaves = it.leaves;
}

pub failures-go-unnoticed : {D : Type 0} (g : Ghosts D) → FailuresGoUnnoticed g
failures-go-unnoticed g files old image cause store left honest may it trees found rows refused adopted clean =
    let first : IsAdopted it.trees rows = elim (it.leaves trees found) [
      | inl same ↦ subst (λ (db : Trees). IsAdopted db rows) same adopted
      | inr same ↦ adopted-of-same it.trees trees rows same adopted
    ] in
    ∥∥₁_map (left image may it.trees it.found rows refused first clean) (λ again. (honest, again, leaves-found it.trees rows refused first))

-- rows of which a book that was refused may leave something were clean when they were taken
clean-rows : (rows : StateOf Content) (refused : ℕ) → (rows.is_honest ≡ true → rows.is_clean ≡ true) → (book_of rows refused).is_honest ≡ true → rows.is_clean ≡ true
clean-rows rows refused answers honest = answers (and_parts rows.is_honest (are_all_right are_right rows.crash_leaves) honest).0

rows-taken : (fault : OpenFault) (p : PolicyRules) (rows : StateOf Content) (refused : ℕ) (new : BookState) (left : Remains Stored) → (rows.is_honest ≡ true → rows.is_clean ≡ true)
    → RefusedTo fault p (book_of rows refused) new → may_leave new left → rows.is_clean ≡ true
unfolding may_leave
rows-taken refusals.Policy p rows refused new left answers it may = clean-rows rows refused answers (it left may).0
rows-taken refusals.Schema p rows refused new left answers it may = clean-rows rows refused answers (it left may).0
rows-taken refusals.Memory p rows refused new left answers it may = elim (it left may) [
  | inl before ↦ clean-rows rows refused answers before.0
  | inr made ↦ (and_parts rows.is_clean (are_right rows.before) made.clean).0
]
rows-taken refusals.Store p rows refused new left answers it may = elim (it left may) [
  | inl before ↦ clean-rows rows refused answers before.0
  | inr made ↦ (and_parts rows.is_clean (are_right rows.before) made.clean).0
]

pub refusals-are-events : {D : Type 0} (g : Ghosts D) → RefusalsAreEvents g
refusals-are-events g files old image p fault new left honest may it remains shown =
    let was = book_of it.rows it.refused in
    let clean = rows-taken fault p it.rows it.refused new remains it.answers it.refuses.crash shown in (
      was,
      stops-are-crashes g files old image it.rows it.refused left honest may (it.taken clean) clean,
      (new, ∣ refused-opening fault p was new it.idle it.refuses.refuses it.refuses.crash it.refuses.follows ∣₁, refl),
    )
