-- What a write does to the rows of its table.
use Rattle.std.proofs.Common.{◌≡◌, ◌≢◌, ◌⊎◌, inl, inr, ℕ, Bool, List, [], ◌∷◌, map, filter, slice_get, Option, Some, None, Result, Ok, Err, refl, sym, ap, ◌∙◌, subst, IsPermutation}
use Rattle.sqlrows.proofs.Words.{all_weaker, Applies, chosen_query, col, Concludes, Database, delete_where, Deletes, deletes-map, Does, Edit}
use Rattle.sqlrows.proofs.Words.{edit_of, Edited, edited, eval_all, Given, Holds, holds, id_in, ids_of, IsDelete, IsKeyedBy, IsKeyedBy-delete_where}
use Rattle.sqlrows.proofs.Words.{IsPermutation-map, Layout, Leads, list_all, Listed, map-map, map_same, Null, one_step, Row, rowid, Schema, Sets}
use Rattle.sqlrows.proofs.{Words.{steady, Table, Tally, Task, Term, Trees, without_all, Written}, SelectLemmas.overlay_none}
use Rattle.sqlrows.proofs.ListLemmas.{removes_in_order}
use Rattle.sqlite_sql.specs.{Query.{IsAnswer, Output, output}, Program.overlay}
use Rattle.sqlite_schema.specs.declared.schema.Keys.TheVariants.{Enforced}
use Rattle.sqlite_rules.specs.Action.{works}
use Rattle.sqlite_typed.proofs.AnswerLemmas.{at_end, last_table, matches_are}

pub same_value : {B E : Type 0} {a b : B} → ◌≡◌ {A = Result B E} (Ok a) (Ok b) → a ≡ b
same_value e = cc

-- a part that gave a value did not stop on the way
pub went : {B E R : Type 0} {b : B} {Stops : E → Type 0} → ((stop : E) × Stops stop × (Ok b ≡ Err stop)) ⊎ R → R
went (inl stopped) = absurd (let e = stopped.2 in cc)
went (inr on) = on

-- the trees that a write leaves are those of its rows
pub concluded : (task : Task) (mode : _) (w : Written) (out : Tally × Database) → Concludes task mode None w (Ok out) → out.1 ≡ record { schema = task.schema; trees = w.trees }
concluded task mode w out h =
    ap (λ (p : Tally × Database). p.1) (same_value (went (went h).2).2)

-- and the rowid that is noted is that of its last row
pub noted : (task : Task) (mode : _) (w : Written) (out : Tally × Database) → Concludes task mode None w (Ok out) → out.0.last ≡ w.last
noted task mode w out h = ap (λ (p : Tally × Database). p.0.last) (same_value (went (went h).2).2)

module _ {X : Type 0} (L : Layout X) (filters project : List Term) (params : Row) (p : X → Bool) (tests : (x : X) → list_all (holds (params ∷ L.to_row x ∷ [])) filters ≡ p x) where
  -- the rows that are chosen to be written, in some order
  pub chosen : (db : Trees) (xs : List X) (rows : List Row) → Holds L db xs → IsAnswer (chosen_query L.tree filters project) (overlay db []) params rows
      → IsPermutation (map (λ x. eval_all project (params ∷ L.to_row x ∷ [])) (filter p xs)) rows
  chosen db xs rows h answer =
      let q = chosen_query L.tree filters project in
      let stored : overlay db [] L.tree ≡ map L.to_row xs = overlay_none db L.tree ∙ h.rows in
      let source = last_table (overlay db []) L.tree L.to_row L.key xs stored h.keyed (at_end (overlay db [])) in
      let kept : answer.kept ≡ map (λ x. output q (params ∷ L.to_row x ∷ [])) (filter p xs) =
      answer.distinct ∙ ap (map (output q)) (answer.grouped ∙ matches_are q (overlay db []) params source p tests) ∙ map-map (output q) _ _ in
      let moved = IsPermutation-map (λ (o : Output). o.1) _ _ (subst (λ l. IsPermutation l answer.ordered) kept answer.same) in
      subst (λ l. IsPermutation (map (λ x. eval_all project (params ∷ L.to_row x ∷ [])) (filter p xs)) l) (sym answer.shown)
      (subst (λ l. IsPermutation l (map (λ (o : Output). o.1) answer.ordered)) (map-map (λ (o : Output). o.1) (λ x. output q (params ∷ L.to_row x ∷ [])) (filter p xs)) moved)

abbrev pub task_of : Option ℕ → Schema → Table → Row → Task
task_of limit schema table params = record { limit = limit; keys = Enforced; schema = schema; table = table; params = params }

abbrev pub left : Schema → Trees → Database
left schema db = record { schema = schema; trees = db }

deletes_rows : (sql : List ℕ) (params : Row) (limit : Option ℕ) (text : List ℕ) (schema : Schema) (at : ℕ) (table : Table) (tree : ℕ) (filters : List Term) (db : Trees) (tally : Tally) (after : Database)
    → slice_get schema.tables at ≡ Some table → IsDelete schema sql at tree filters → Leads schema sql params limit text db tally after
    → (w : Written) × Deletes (task_of limit schema table params) (record { lets = []; body = chosen_query tree filters (col 1 0 ∷ []) }) db (Ok w) × (after ≡ left schema w.trees)
deletes_rows sql params limit text schema at table tree filters db tally after place is ran =
    let done = subst (λ k. Does limit steady params (left schema db) text None k (Ok (tally, after))) is.command ran in
    let found = went (rw place at done) in
    (found.0, found.1, concluded (task_of limit schema table params) steady found.0 (tally, after) found.2)

-- an edit in which no foreign key acts
pub applies : (schema : Schema) (db next : Trees) (edit : Edit) → ((tree : ℕ) (olds news : List Row) → works schema Enforced 0 tree olds news ≡ []) → Edited schema Enforced db edit (Ok next)
    → Applies schema Enforced db edit next
applies schema db next edit quiet = one_step schema Enforced db next edit (quiet _ _ _)

module _ {X : Type 0} (L : Layout X) (schema : Schema) (at : ℕ) (table : Table) (listed : Listed L schema at table) where
  -- the edit leaves the rows of the typed list
  pub sets : (db : Trees) (w : Database) (edit : Edit) (next : Trees) (xs : List X) → edit.table ≡ table → Applies schema Enforced db edit next → w ≡ left schema next → edited db edit ≡ map L.to_row xs
      → IsKeyedBy L.key xs → Sets L schema (left schema db) w xs
  sets db w edit next xs on it is rows up = record {
    same = ap (λ (d : Database). d.schema) is;
    holds = record { rows = ap (λ (d : Database). d.trees L.tree) is ∙ ap next (sym listed.tree ∙ ap (λ (t : Table). t.tree) (sym on)) ∙ it.rows ∙ rows; keyed = up };
    others = all_weaker _ (λ t. t.tree ≢ L.tree → w.trees t.tree ≡ db t.tree)
        (λ t kept apart. ap (λ (d : Database). d.trees t.tree) is ∙ kept (λ same. apart (same ∙ ap (λ (x : Table). x.tree) on ∙ listed.tree))) schema.tables it.tables;
  }

  deleted : (params : Row) (limit : Option ℕ) (filters : List Term) (p : X → Bool) (db : Trees) (xs : List X) (w : Written) (new : Database) → ((x : X) → list_all (holds (params ∷ L.to_row x ∷ [])) filters ≡ p x)
      → Holds L db xs → Deletes (task_of limit schema table params) (record { lets = []; body = chosen_query L.tree filters (col 1 0 ∷ []) }) db (Ok w) → new ≡ left schema w.trees
      → Sets L schema (left schema db) new (delete_where p xs)
  deleted params limit filters p db xs w new tests h found now =
      let given = went found in
      let edit = edit_of db table (ids_of given.0) Given 0 [] in
      let written = went given.2 in
      let rows = chosen L filters (col 1 0 ∷ []) params p tests db xs given.0 h (given.1.answer Null) in
      let same = IsPermutation-map (λ r. id_in (rowid r)) _ _ rows in
      let ids : IsPermutation (map L.key (filter p xs)) (ids_of given.0) =
      subst (λ l. IsPermutation l (ids_of given.0)) (map-map _ _ (filter p xs) ∙ map_same _ _ (λ x. ap id_in (L.keyed x)) (filter p xs)) same in
      let trees : w.trees ≡ written.0 = ap (λ (it : Written). it.trees) (same_value written.2) in
      sets db new edit written.0 (delete_where p xs) refl (applies schema db written.0 edit listed.quiet written.1) (now ∙ ap (left schema) trees)
      (ap (λ l. without_all l (ids_of given.0)) (ap db listed.tree ∙ h.rows) ∙ deletes-map L.key L.to_row L.keyed (ids_of given.0) xs ∙ ap (map L.to_row) (removes_in_order L.key p xs (ids_of given.0) h.keyed ids))
      (IsKeyedBy-delete_where L.key p xs h.keyed)

  pub deletes : (sql : List ℕ) (params : Row) (filters : List Term) (p : X → Bool) → ((x : X) → list_all (holds (params ∷ L.to_row x ∷ [])) filters ≡ p x)
      → IsDelete schema sql at L.tree filters → (limit : Option ℕ) (text : List ℕ) (db : Trees) (tally : Tally) (after : Database) (xs : List X) → Holds L db xs
      → Leads schema sql params limit text db tally after → Sets L schema (left schema db) after (delete_where p xs)
  deletes sql params filters p tests is limit text db tally after xs h ran =
      let it = deletes_rows sql params limit text schema at table L.tree filters db tally after listed.is is ran in
      deleted params limit filters p db xs it.0 after tests h it.1 it.2
