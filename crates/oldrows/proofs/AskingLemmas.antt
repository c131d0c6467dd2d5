-- What a query finds, and what it leaves.
use Rattle.std.proofs.Common.{◌≡◌, ◌&&◌, inl, inr, ℕ, Bool, true, false, List, [], map, IfOk, Result, Ok, Err, IsTrue, refl, sym, ap, subst, ◌∙◌}
use Rattle.std.proofs.lemmas.Bool.{and_parts}
use Rattle.sqlite_value.specs.{declared.value.Value.TheVariants.Null, Order.Row}
use Rattle.sqlite_trees.specs.Tree.{Trees}
use Rattle.sqlite_schema.specs.declared.{schema.Schema.Schema, command.Command.TheVariants.Select}
use Rattle.sqlite.specs.{declared.error.Error.Error, Effect.Database, Given.IsPlain, Listing.understood}
use Rattle.sqlite.specs.State.{CommitsShowing, State, FailsToQuery, HasCleanDisk, IsUnchanged, Shown, Survives}
use Rattle.sqlite.proofs.Callers.{reads_as}
use Rattle.sqlrows.specs.inner.Calls.{StaysOrUndoes}
use Rattle.sqlrows.proofs.{SelectLemmas.same_command, SoundLemmas.{not_queried_open, queried_open, was_open}}
use Rattle.sqlrows.proofs.StandLemmas.{commits_nothing, same_if_shown, stands_if_not_shown}
use Rattle.sqltables.specs.{Content.Content, inner.FirstTables.first_registry}
use Rattle.sqltables.proofs.StandingLemmas.{answered-open, clean-of, honest, leaves-no-more, was-honest}
use Rattle.states.specs.{declared.fault.BookFault.BookFault, States.Remains}
use Rattle.oldrows.specs.inner.Stored.{AgreesAsOld, Asks, FindsOld, FitsOld, GuardsOld, IsOld, old_contents, old_rows, as_found}
use Rattle.oldrows.specs.Stored.{Answers, IsRead, OldState}
use Rattle.oldrows.proofs.CopyLemmas.{read-on}

-- the database is the same one, and nothing is open
agrees-at : (old new : State) → AgreesAsOld old → new.now ≡ old.now → new.in_transaction ≡ false → new.now ≡ new.committed → (new.now ≡ old.now) × AgreesAsOld new
agrees-at old new it db mode settled = (
  db,
  record { mode = mode; holds = subst (λ (db : Database). IsOld (old_contents db.trees) db) (sym db) it.holds; settled = settled },
)

agrees-after : (old new : State) → AgreesAsOld old → IsTrue new.is_open → StaysOrUndoes old new → (new.now ≡ old.now) × AgreesAsOld new
agrees-after old new it opened (inl same) =
    agrees-at old new it same.0.now_is (same.0.mode ∙ it.mode) (same.0.now_is ∙ it.settled ∙ sym same.0.committed_is)
agrees-after old new it opened (inr back) = let gone = back.undone opened in
    agrees-at old new it (gone.0 ∙ sym it.settled) back.autocommit (gone.0 ∙ sym gone.1)

-- the same rows are seen, if the tables are there
same-rows : (is_there : Bool) (old new : State) → (is_there ≡ true → new.now ≡ old.now) → old_rows is_there new.now.trees ≡ old_rows is_there old.now.trees
same-rows true old new same = ap (λ (db : Database). old_contents db.trees) (same refl)
same-rows false old new same = refl

-- ---- a call that changed nothing, or ended what there was

pub guards-on : (old new : State) (leaves : List (Remains Content)) → (HasCleanDisk new → Survives old new (λ _. ⊥)) → GuardsOld old leaves → GuardsOld new leaves
guards-on old new leaves survives guards clean db may =
    guards (was-honest old new (λ _. ⊥) (survives clean) clean) db (leaves-no-more old new (survives clean) clean db may)

module _ (is_there : Bool) (old new : State) (P : Trees → Type 0) (survives : Survives old new P) (fits : FitsOld is_there old) (stood : HasCleanDisk new → IsTrue new.is_open → StaysOrUndoes old new) where
  stayed : HasCleanDisk new → IsTrue new.is_open → is_there ≡ true → (new.now ≡ old.now) × AgreesAsOld new
  stayed clean opened there =
      let left = stood clean opened in
      agrees-after old new (fits (was-honest old new P survives clean) (was_open old new left opened) there) opened left

  pub fits-stood : FitsOld is_there new
  fits-stood clean opened there = (stayed clean opened there).1

  pub reads-stood : (leaves : List (Remains Content)) → IsRead (as_found is_there old leaves) (as_found is_there new leaves)
  reads-stood leaves = record {
    clean = λ c. let parts = and_parts new.is_clean new.is_open c in let clean = honest new parts.0 in
        ap (λ (b : Bool). b && old.is_open) (clean-of old (was-honest old new P survives clean)) ∙ was_open old new (stood clean parts.1) parts.1;
    honest = λ e. clean-of old (was-honest old new P survives (honest new e));
    content = λ c. let parts = and_parts new.is_clean new.is_open c in
        same-rows is_there old new (λ there. (stayed (honest new parts.0) parts.1 there).0);
    ready = refl;
    leaves = refl;
  }

-- ---- a query

module _ (sql : List ℕ) (params : Row) (is_there : Bool) (old new : State) (survives : Survives old new (CommitsShowing sql params old)) (fits : FitsOld is_there old) (there : is_there ≡ true) (plain : IsPlain (understood first_registry sql)) where
  was : HasCleanDisk new → HasCleanDisk old
  was = was-honest old new (CommitsShowing sql params old) survives

  plain-in : AgreesAsOld old → IsPlain (understood old.now.schema sql)
  plain-in h = subst (λ (s : Schema). IsPlain (understood s sql)) (sym h.holds.schema) plain

  agreed : (found : List Row) → HasCleanDisk new → Shown sql params old new found → AgreesAsOld old
  agreed found clean seen = fits (was clean) (queried_open sql params old new found seen) there

  same-if : (found : List Row) → HasCleanDisk new → Shown sql params old new found → IsUnchanged old new
  same-if found clean seen = same_if_shown sql params old new found (plain-in (agreed found clean seen)) seen

  pub stood-shown : (found : List Row) → (HasCleanDisk new → Shown sql params old new found) → HasCleanDisk new → IsTrue new.is_open → StaysOrUndoes old new
  stood-shown found seen clean opened = inl (same-if found clean (seen clean))

  pub stood-left : (e : Error) → (HasCleanDisk new → FailsToQuery sql params old new e) → HasCleanDisk new → IsTrue new.is_open → StaysOrUndoes old new
  stood-left e fails clean opened =
      stands_if_not_shown sql params old new e (plain-in (fits (was clean) (not_queried_open sql params old new e (fails clean) opened) there)) (fails clean)

  -- it commits nothing, where the database answers
  pub kept : (leaves : List (Remains Content)) → Answers (as_found is_there old leaves) → (HasCleanDisk new → IsTrue new.is_open → StaysOrUndoes old new) → GuardsOld old leaves → FitsOld is_there new × GuardsOld new leaves
  kept leaves answers stood guards = (
    fits-stood is_there old new (CommitsShowing sql params old) survives fits stood,
    guards-on old new leaves (λ clean. commits_nothing sql params old new
        (plain-in (fits (was clean) (answered-open old new (CommitsShowing sql params old) survives answers clean) there)) survives) guards,
  )

  -- what answered is open
  answers-shown : (leaves : List (Remains Content)) (found : List Row) → (HasCleanDisk new → Shown sql params old new found) → Answers (as_found is_there new leaves)
  answers-shown leaves found seen e =
      let clean = honest new e in
      ap (λ (b : Bool). b && new.is_open) e ∙ (same-if found clean (seen clean)).0.is_open

-- the records that an answer shows
answered : {R : Type 0} (shown : R → Row) (sql : List ℕ) (f : Content → List R) → Asks shown sql f → (old new : State) → IsOld (old_contents old.now.trees) old.now → (found : List Row) → Shown sql [] old new found
    → found ≡ map shown (f (old_contents old.now.trees))
answered shown sql f a old new h found seen =
    let read = reads_as sql [] old new first_registry h.schema (Select (record { lets = []; body = a.query }) a.is.names) (same_command (understood first_registry sql) ∙ a.is.command) a.is.plain a.is.unlisted found seen in
    a.means old.now.trees (old_contents old.now.trees) found (subst (λ (s : Schema). IsOld (old_contents old.now.trees) (record { schema = s; trees = old.now.trees })) h.schema h) (read.answer Null)

finds-by : {A : Type 0} (result : Result A BookFault) (v : A) (old new : OldState) → IsRead old new → Answers new → (new.is_clean ≡ true → IfOk result (λ it. it ≡ v)) → FindsOld result v old new
finds-by (Ok it) v old new reads answers same = (record { reads = reads; answers = λ was. answers }, same)
finds-by (Err fault) v old new reads answers same = reads

pub asked : {R : Type 0} (shown : R → Row) (sql : List ℕ) (is_there : Bool) (old new : State) (leaves : List (Remains Content)) → Survives old new (CommitsShowing sql [] old) → FitsOld is_there old → is_there ≡ true
    → (f : Content → List R) → Asks shown sql f → (found : List Row) → (HasCleanDisk new → Shown sql [] old new found) → (result : Result (List R) BookFault)
    → ((xs : List R) → found ≡ map shown xs → IfOk result (λ out. out ≡ xs)) → FindsOld result (f (old_rows is_there old.now.trees)) (as_found is_there old leaves) (as_found is_there new leaves)
asked shown sql is_there old new leaves survives fits there f asks found seen result read =
    let plain = asks.is.plain in
    finds-by result (f (old_rows is_there old.now.trees)) (as_found is_there old leaves) (as_found is_there new leaves)
    (reads-stood is_there old new (CommitsShowing sql [] old) survives fits (stood-shown sql [] is_there old new survives fits there plain found seen) leaves)
    (answers-shown sql [] is_there old new survives fits there plain leaves found seen)
    (λ e. let clean = honest new (and_parts new.is_clean new.is_open e).0 in
    read (f (old_rows is_there old.now.trees))
    (answered shown sql f asks old new (agreed sql [] is_there old new survives fits there plain found clean (seen clean)).holds found (seen clean)
    ∙ ap (λ (b : Bool). map shown (f (old_rows b old.now.trees))) (sym there)))

-- a question behind a look at the database that found it answering
pub asked-behind : {A : Type 0} (r : Result A BookFault) (s m t : OldState) (f : Content → A) → IsRead s m → Answers m → FindsOld r (f m.content) m t → FindsOld r (f s.content) s t
asked-behind (Ok it) s m t f reads answers found = (
  record { reads = read-on s m t reads found.0.reads; answers = λ was. found.0.answers answers },
  λ e. found.1 e ∙ ap f (reads.content (found.0.reads.clean e)),
)
asked-behind (Err fault) s m t f reads answers found = read-on s m t reads found
