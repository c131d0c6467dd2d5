-- What a statement that writes rows makes of them, and what it leaves.
use Rattle.std.proofs.Common.{◌≡◌, ◌&&◌, ℕ, ℤ, Bool, true, List, Option, None, Ok, Err, IsTrue, refl, sym, ap, subst, ◌∙◌, true≢false}
use Rattle.std.specs.Prelude.{unwrap_or}
use Rattle.sqltables.proofs.Words.{AgreesWithForm, Alters, Answer, Appends, AreOthersSame, AreRight, Bears, command_of, commits_later}
use Rattle.sqltables.proofs.Words.{CommitsBy, Content, contents, Database, Error, executed_open, Executes, Fits, Form, has_rows, HasCleanDisk}
use Rattle.sqltables.proofs.Words.{HoldsRows, IsContent, Leads, Made, Making, mode_of, Recalls, registry, Remains, Row, rows_in, Runs, runs_as}
use Rattle.sqltables.proofs.Words.{same_command, stands_if_not_executed, State, statement_of, stays_if_executed, StaysOrUndoes, store_state}
use Rattle.sqltables.proofs.{Words.{Survives, Trees, understood, undone, Unused, Writes, writes_tables}, AskingLemmas.{holds-now, rows-are}}
use Rattle.sqltables.proofs.DecodingLemmas.{decoded}
use Rattle.sqltables.proofs.StandingLemmas.{answered-open, both, clean-before, honest, leaves-no-more, leaves-same, was-honest}
use Rattle.sqlite_schema.specs.declared.{schema.Schema.Schema, command.Command.Command}
use Rattle.sqlite_schema.specs.declared.command.Command.TheVariants.{Insert, InsertOr, Update, Delete, CreateTable, CreateIndex}
use Rattle.sqlite.specs.Does.{Does, Tally}
use Rattle.sqlrows.specs.inner.Calls as calls
use Rattle.sqltables.specs.declared.form.Form.TheVariants.{Other}

-- what a command that writes rows did
changed-by : (old new : State) (command : Command) (text : List ℕ) (params : Row) (count : ℕ) → writes_tables command ≡ true → Runs old new None command text params count
    → (tally : Tally) × Does old.step_limit (mode_of old) params old.now text None command (Ok (tally, new.now)) × (new.last_rowid ≡ unwrap_or tally.last old.last_rowid)
changed-by old new (Insert at from) text params count kind w = (w.tally, w.changed, w.last_rowid)
changed-by old new (InsertOr at way from clauses) text params count kind w = (w.tally, w.changed, w.last_rowid)
changed-by old new (Update at q) text params count kind w = (w.tally, w.changed, w.last_rowid)
changed-by old new (Delete at q) text params count kind w = (w.tally, w.changed, w.last_rowid)
changed-by old new CreateTable text params count kind w = (w.tally, w.changed, w.last_rowid)
changed-by old new (CreateIndex at) text params count kind w = (w.tally, w.changed, w.last_rowid)
changed-by old new _ text params count kind w = absurd (true≢false (sym kind))

bears-written : (form : Form) (was now committed after : Database) → has_rows form ≡ true → Bears form was committed → HoldsRows now → after ≡ committed → Bears form now after
bears-written Unused was now committed after is it h same = absurd (true≢false (sym is))
bears-written Making was now committed after is it h same = (h, ap (λ (db : Database). db.schema) same ∙ it.1)
bears-written Made was now committed after is it h same = (h, subst HoldsRows (sym same) it.1)
bears-written Other was now committed after is it h same = absurd (true≢false (sym is))

module _ (tree : ℕ) (sql : List ℕ) (params : Row) (form : Form) (old new : State) (P : Trees → Type 0) (survives : Survives old new P) (fits : Fits form true old) (rows : has_rows form ≡ true) (f : Content → Content) (alters : Alters tree sql params f) where
  -- after an error
  pub left-by-write : (e : Error) → (HasCleanDisk new → Executes sql params old new (Err e)) → HasCleanDisk new → IsTrue new.is_open → StaysOrUndoes old new × AgreesWithForm form true old
  left-by-write e ran clean opened = (stands_if_not_executed sql params old new e (ran clean), fits (was-honest old new P survives clean) (executed_open sql params old new (Err e) (ran clean) opened))

  -- a statement that writes rows commits nothing inside a transaction
  pub none-committed : Survives old new (CommitsBy sql params old) → (HasCleanDisk new → IsTrue old.is_open) → HasCleanDisk new → (db : Trees) → new.may_leave db → old.may_leave db
  none-committed runs opened clean =
      let it = fits (was-honest old new P survives clean) (opened clean) in
      let h = holds-now form old.now old.committed rows it.bears in
      leaves-no-more old new (commits_later sql params old new (subst (λ (s : Schema). writes_tables (command_of (understood s sql)) ≡ true) (sym h.schema) alters.writes) it.mode runs) clean

  -- after an error, where the connection was open
  pub left-open : (e : Error) → (HasCleanDisk new → Executes sql params old new (Err e)) → (HasCleanDisk new → IsTrue old.is_open) → HasCleanDisk new → StaysOrUndoes old new × AgreesWithForm form true old
  left-open e ran opened clean = (stands_if_not_executed sql params old new e (ran clean), fits (was-honest old new P survives clean) (opened clean))

  module _ (count : ℕ) (ran : HasCleanDisk new → Executes sql params old new (Ok count)) where
    agreed : HasCleanDisk new → IsTrue new.is_open → AgreesWithForm form true old
    agreed clean opened = fits (was-honest old new P survives clean) (executed_open sql params old new (Ok count) (ran clean) opened)

    was-content : AgreesWithForm form true old → IsContent (contents old.now.trees) (record { schema = registry; trees = old.now.trees })
    was-content it =
        let h = holds-now form old.now old.committed rows it.bears in
        subst (λ (s : Schema). IsContent (contents old.now.trees) (record { schema = s; trees = old.now.trees })) h.schema h

    led : HasCleanDisk new → AgreesWithForm form true old → (tally : Tally) × Leads registry sql params old.step_limit (statement_of sql (understood registry sql)) old.now.trees tally new.now × (new.last_rowid ≡ unwrap_or tally.last old.last_rowid)
    led clean it =
        let h = holds-now form old.now old.committed rows it.bears in
        let command = command_of (understood registry sql) in
        let runs = runs_as sql params old new registry h.schema command (same_command (understood registry sql)) alters.plain count (ran clean) in
        let text = statement_of sql (understood registry sql) in
        let did = changed-by old new command text params count alters.writes runs in
        (did.0, subst (λ (s : Schema). Does old.step_limit (mode_of old) params (record { schema = s; trees = old.now.trees }) text None command (Ok (did.0, new.now))) h.schema did.1, did.2)

    made : HasCleanDisk new → AgreesWithForm form true old → IsContent (f (contents old.now.trees)) new.now
    made clean it =
        let led = led clean it in
        alters.means old.step_limit _ old.now.trees led.0 new.now (contents old.now.trees) (was-content it) led.1

    -- what was kept of other tables is still right
    pub recalls-written : (kept left : List Answer) → Recalls old kept → ((db next : Trees) → AreOthersSame tree db next → AreRight db kept → AreRight next left) → Recalls new left
    recalls-written kept left was leaves clean opened =
        let it = agreed clean opened in
        let led = led clean it in
        leaves old.now.trees new.now.trees (alters.others old.step_limit _ old.now.trees led.0 new.now (contents old.now.trees) (was-content it) led.1)
        (was (was-honest old new P survives clean) (executed_open sql params old new (Ok count) (ran clean) opened))

    -- the number that the connection has noted is that of the row that was added
    pub numbered : (number : Content → ℤ) → Appends tree sql params f number → HasCleanDisk new → IsTrue new.is_open → new.last_rowid ≡ number (rows_in form old.now.trees)
    numbered number appends clean opened =
        let it = agreed clean opened in
        let led = led clean it in
        led.2 ∙ ap (λ (o : Option ℤ). unwrap_or o old.last_rowid) (appends.last old.step_limit _ old.now.trees led.0 new.now (contents old.now.trees) (was-content it) led.1)
        ∙ ap number (sym (rows-are form old.now.trees rows))

    stayed : HasCleanDisk new → AgreesWithForm form true old → calls.StaysOpen old new
    stayed clean it =
        let h = holds-now form old.now old.committed rows it.bears in
        stays_if_executed sql params old new count (subst (λ (s : Schema). writes_tables (command_of (understood s sql)) ≡ true) (sym h.schema) alters.writes) it.mode (ran clean)

    -- the connection was open, and is
    pub open-after : (HasCleanDisk new → IsTrue old.is_open) → HasCleanDisk new → IsTrue new.is_open
    open-after opened clean = (stayed clean (fits (was-honest old new P survives clean) (opened clean))).shown.is_open

    pub fits-written : Fits form true new
    fits-written clean opened =
        let it = agreed clean opened in
        let shown = (stayed clean it).shown in
        let m = made clean it in
        record {
          mode = shown.mode;
          bears = bears-written form old.now new.now old.committed new.committed rows it.bears (subst (λ (xs : Content). IsContent xs new.now) (sym (decoded (f (contents old.now.trees)) new.now m)) m) shown.committed_is;
          settled = λ e. absurd (true≢false e);
          making = λ e. absurd (true≢false e);
        }

    pub written : (leaves : List (Remains Content)) → Writes (f (rows_in form old.now.trees)) (store_state form true old leaves) (store_state form true new leaves)
    written leaves = record {
      clean = λ e. let p = both new e in clean-before old new P survives p.0 (executed_open sql params old new (Ok count) (ran p.0) p.1);
      before = λ e. let p = both new e in ap (λ (db : Database). rows_in (undone form) db.trees) (stayed p.0 (agreed p.0 p.1)).shown.committed_is;
      opened = refl;
      content = λ e.
          let p = both new e in
          rows-are form new.now.trees rows ∙ decoded (f (contents old.now.trees)) new.now (made p.0 (agreed p.0 p.1)) ∙ ap f (sym (rows-are form old.now.trees rows));
      answers = λ was e. ap (λ (b : Bool). b && new.is_open) e ∙ open-after (answered-open old new P survives was) (honest new e);
      leaves = leaves-same form form true true old new P leaves survives refl;
    }
