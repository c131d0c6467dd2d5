-- What a query finds, and what it leaves.
use Rattle.std.proofs.Common.{◌≡◌, ℕ, Bool, true, List, [], map, IfOk, Result, Ok, Err, IsTrue, sym, ap, subst, ◌∙◌, arith}
use Rattle.sqltables.proofs.Words.{AgreesWithForm, Answer, AreRight, Asks, Bears, BookFault, commits_nothing, CommitsShowing, Content}
use Rattle.sqltables.proofs.Words.{contents, Database, Error, FailsToQuery, Finds, Fits, Form, has_rows, HasCleanDisk, HoldsRows, IsAnsweredByRows}
use Rattle.sqltables.proofs.Words.{IsContent, IsUnchanged, not_queried_open, Null, queried_open, Reads, reads_as, Recalls, registry}
use Rattle.sqltables.proofs.Words.{Remains, Row, rows_in, same_command, same_if_shown, Select, Shown, stands_if_not_shown, State, StateOf}
use Rattle.sqltables.proofs.Words.{StaysOrUndoes, store_state, Survives, Trees, understood}
use Rattle.sqltables.proofs.StandingLemmas.{agrees-unchanged, both, leaves-no-more, reads-same, was-honest}
use Rattle.sqlite_schema.specs.declared.schema.Schema.{Schema}
use Rattle.sqlite.specs.Given.{IsPlain}

-- ---- where the tables are

pub holds-now : (form : Form) (now committed : Database) → has_rows form ≡ true → Bears form now committed → HoldsRows now
holds-now form now committed is it = grind arith

pub rows-are : (form : Form) (db : Trees) → has_rows form ≡ true → rows_in form db ≡ contents db
rows-are form db is = rw is

module _ (sql : List ℕ) (params : Row) (form : Form) (begun : Bool) (old new : State) (P : Trees → Type 0) (survives : Survives old new P) (fits : Fits form begun old) (rows : has_rows form ≡ true) (plain : IsPlain (understood registry sql)) where
  plain-in : HoldsRows old.now → IsPlain (understood old.now.schema sql)
  plain-in h = subst (λ (s : Schema). IsPlain (understood s sql)) (sym h.schema) plain

  pub agreed : (found : List Row) → HasCleanDisk new → Shown sql params old new found → AgreesWithForm form begun old
  agreed found clean seen = fits (was-honest old new P survives clean) (queried_open sql params old new found seen)

  pub held : (found : List Row) → HasCleanDisk new → Shown sql params old new found → HoldsRows old.now
  held found clean seen = holds-now form old.now old.committed rows (agreed found clean seen).bears

  pub same-if : (found : List Row) → HasCleanDisk new → Shown sql params old new found → IsUnchanged old new
  same-if found clean seen = same_if_shown sql params old new found (plain-in (held found clean seen)) seen

  -- after an answer
  pub fits-shown : (found : List Row) → (HasCleanDisk new → Shown sql params old new found) → Fits form begun new
  fits-shown found seen clean opened = agrees-unchanged form begun old new (same-if found clean (seen clean)) (agreed found clean (seen clean))

  -- after an error
  pub left-by-query : (e : Error) → (HasCleanDisk new → FailsToQuery sql params old new e) → HasCleanDisk new → IsTrue new.is_open → StaysOrUndoes old new × AgreesWithForm form begun old
  left-by-query e fails clean opened =
      let it = fits (was-honest old new P survives clean) (not_queried_open sql params old new e (fails clean) opened) in
      (stands_if_not_shown sql params old new e (plain-in (holds-now form old.now old.committed rows it.bears)) (fails clean), it)

  -- a query commits nothing, where the connection is open
  pub nothing-committed : Survives old new (CommitsShowing sql params old) → (HasCleanDisk new → IsTrue old.is_open) → HasCleanDisk new → (db : Trees) → new.may_leave db → old.may_leave db
  nothing-committed shows opened clean =
      let it = fits (was-honest old new P survives clean) (opened clean) in
      leaves-no-more old new (commits_nothing sql params old new (plain-in (holds-now form old.now old.committed rows it.bears)) shows) clean

  -- what it left, where the connection was open
  pub left-open : (e : Error) → (HasCleanDisk new → FailsToQuery sql params old new e) → (HasCleanDisk new → IsTrue old.is_open) → HasCleanDisk new → StaysOrUndoes old new × AgreesWithForm form begun old
  left-open e fails opened clean =
      let it = fits (was-honest old new P survives clean) (opened clean) in
      (stands_if_not_shown sql params old new e (plain-in (holds-now form old.now old.committed rows it.bears)) (fails clean), it)

-- what was answered is what the trees give
pub right : (sql : List ℕ) (params : Row) (old new : State) → HoldsRows old.now → (found : List Row) → Shown sql params old new found → IsAnsweredByRows old.now.trees sql params found
right sql params old new h found seen query is =
    (reads_as sql params old new registry h.schema (Select (record { lets = []; body = query }) is.names) (same_command (understood registry sql) ∙ is.command) is.plain is.unlisted found seen).answer Null

-- the records that an answer shows
pub shows : {R : Type 0} (tree : ℕ) (shown : R → Row) (sql : List ℕ) (params : Row) (f : Content → List R) → Asks tree shown sql params f → (db : Trees) (xs : Content) → IsContent xs (record { schema = registry; trees = db }) → (found : List Row) → IsAnsweredByRows db sql params found
    → found ≡ map shown (f xs)
shows tree shown sql params f a db xs is found answer = a.means db xs found is (answer a.query a.is)

-- the tables of a database that is the registry's
pub in-registry : (db : Database) → HoldsRows db → IsContent (contents db.trees) (record { schema = registry; trees = db.trees })
in-registry db h = subst (λ (s : Schema). IsContent (contents db.trees) (record { schema = s; trees = db.trees })) h.schema h

answered : {R : Type 0} (tree : ℕ) (shown : R → Row) (sql : List ℕ) (params : Row) (f : Content → List R) → Asks tree shown sql params f → (old new : State) → HoldsRows old.now → (found : List Row) → Shown sql params old new found
    → found ≡ map shown (f (contents old.now.trees))
answered tree shown sql params f a old new h found seen = shows tree shown sql params f a old.now.trees (contents old.now.trees) (in-registry old.now h) found (right sql params old new h found seen)

-- what was read, or a fault
pub finds-by : {A : Type 0} (result : Result A BookFault) (v : A) (old new : StateOf Content) → Reads old new → (new.is_clean ≡ true → IfOk result (λ it. it ≡ v)) → Finds result v old new
finds-by (Ok it) v old new reads same = (reads, same)
finds-by (Err fault) v old new reads same = record { clean = reads.clean; before = reads.before; leaves = reads.leaves }

pub asked : {R : Type 0} (tree : ℕ) (shown : R → Row) (sql : List ℕ) (params : Row) (form : Form) (begun : Bool) (old new : State) (P : Trees → Type 0) (leaves : List (Remains Content)) → Survives old new P → Fits form begun old → has_rows form ≡ true
    → (f : Content → List R) → Asks tree shown sql params f → (found : List Row) → (HasCleanDisk new → Shown sql params old new found) → (result : Result (List R) BookFault)
    → ((xs : List R) → found ≡ map shown xs → IfOk result (λ out. out ≡ xs)) → Finds result (f (rows_in form old.now.trees)) (store_state form begun old leaves) (store_state form begun new leaves)
asked tree shown sql params form begun old new P leaves survives fits rows f asks found seen result read =
    let plain = asks.is.plain in
    finds-by result (f (rows_in form old.now.trees)) (store_state form begun old leaves) (store_state form begun new leaves)
    (reads-same form begun old new P leaves survives (λ clean. same-if sql params form begun old new P survives fits rows plain found clean (seen clean)))
    (λ e. let clean = (both new e).0 in
    read (f (rows_in form old.now.trees))
    (answered tree shown sql params f asks old new (held sql params form begun old new P survives fits rows plain found clean (seen clean)) found (seen clean) ∙ ap (λ (xs : Content). map shown (f xs)) (sym (rows-are form old.now.trees rows))))

-- what was kept is still right, and so is what was answered
pub recalls-shown : (sql : List ℕ) (params : Row) (form : Form) (begun : Bool) (old new : State) (P : Trees → Type 0) → Survives old new P → Fits form begun old → has_rows form ≡ true → IsPlain (understood registry sql)
    → (found : List Row) → (HasCleanDisk new → Shown sql params old new found) → (kept more : List Answer) → Recalls old kept
    → ((db : Trees) → AreRight db kept → IsAnsweredByRows db sql params found → AreRight db more) → Recalls new more
recalls-shown sql params form begun old new P survives fits rows plain found seen kept more was adds clean opened =
    let h = held sql params form begun old new P survives fits rows plain found clean (seen clean) in
    let there = was (was-honest old new P survives clean) (queried_open sql params old new found (seen clean)) in
    subst (λ (db : Database). AreRight db.trees more) (sym (same-if sql params form begun old new P survives fits rows plain found clean (seen clean)).0.now_is)
    (adds old.now.trees there (right sql params old new h found (seen clean)))
