-- What an upsert by key does.
use Rattle.std.proofs.Common.{◌≡◌, ◌++◌, ◌||◌, inl, inr, ℕ, ℤ, Bool, true, false, List, [], ◌∷◌, map, drop, length, slice_get, Option, Some, None, Ok, refl, sym, ap, ap₂, ◌∙◌, subst, IsPermutation, int_eq, true≢false}
use Rattle.std.proofs.lemmas.Bool.{and_parts}
use Rattle.sqlrows.proofs.Words.{Above, cast_row, Chosen, chosen_query, col, count_of, Database, deletes-map, Does, edit_of, edited, eval_all, Given}
use Rattle.sqlrows.proofs.Words.{Gives, Has, Holds, holds, ids_of, insert_by, Int, IsKeyedBy-insert_by, IsPut, Layout, Leads, list_all, Listed, Null}
use Rattle.sqlrows.proofs.Words.{one_permutation, op2, put_row, puts-map, Row, rowid, rowids_for, same_int, Schema, Sets, steady, Table, Tally, Task}
use Rattle.sqlrows.proofs.Words.{Term, Trees, Updates, with_rowid, without_key, without_rowid, Written}
use Rattle.sqlrows.proofs.ListLemmas.{removed_put, only_one}
use Rattle.sqlrows.proofs.WriteLemmas.{went, same_value, concluded, task_of, left, applies, sets, chosen}
use Rattle.sqlite_value.specs.declared.keys.{Collation.TheVariants.Binary, Key.Key}
use Rattle.sqlite_value.proofs.KeyLemmas.{first_key-plain}
use Rattle.sqlite_sql.specs.{declared.ops.{CompareOp.TheVariants.Eq, BinaryOp.TheVariants.Compare}, Ops.{is_true, binary}}
use Rattle.sqlite_schema.specs.declared.command.{Conflict.TheVariants.Abort, Upsert.Upsert, Source.TheVariants.Values}
use Rattle.sqlite_schema.specs.declared.program.Program.{Program}
use Rattle.sqlite_rules.specs.{declared.error.{Rowids.Rowids, Refusal.Refusal}, Keys.{AreConflicts, conflicts}}
use Rattle.sqlite_typed.proofs.TestLemmas.{at_ints, last_term}
use Rattle.sqlite.specs.Rows.{Puts, Clears, Meets, Upserts, Judged, Tries, TriesEach, InsertsOr, shown, nothing, Counts}

pub not_counted : (task : Task) → task.table.is_counted ≡ false → (db next : Trees) (counter : Option Row) (top : ℤ) → Counts task db counter top (Ok next) → next ≡ db
not_counted task none db next counter top it = same_value (rw none at it)

-- the row has its rowid already
placed : (rowids : Rowids) (rows : List Row) (row : Row) (id : ℤ) → rowid row ≡ Int id → with_rowid rowids rows row ≡ row
placed Chosen rows row id is = rw is
placed (Above last) rows row id is = rw is
placed Given rows row id is = refl

has_source : {X Y : Type 0} (f : X → Y) (xs : List X) (y : Y) → Has (map f xs) y → (x : X) × Has xs x × (y ≡ f x)
has_source f [] y h = absurd h
has_source f (x ∷ xs) y (inl is) = (x, inl refl, is)
has_source f (x ∷ xs) y (inr later) = let it = has_source f xs y later in (it.0, inr it.1, it.2)

or_first : (a b : Bool) → (a || b) ≡ true → b ≡ false → a ≡ true
or_first true b h none = refl
or_first false b h none = absurd (true≢false (sym h ∙ none))

module _ {X : Type 0} (L : Layout X) (schema : Schema) (at : ℕ) (table : Table) (listed : Listed L schema at table) (given : ℕ) (terms more : List Term) (params : X → Row) (gives : Gives L schema table given terms more params) where
  abbrev update : Program
  update = record { lets = []; body = chosen_query L.tree (op2 (Compare Eq Binary) (col 1 0) (col 0 given) ∷ []) (col 1 0 ∷ more) }

  abbrev clause : Upsert
  clause = record { target = Some (0 ∷ []); update = Some update }

  module _ (limit : Option ℕ) (db : Trees) (xs : List X) (h : Holds L db xs) (x : X) where
    abbrev task : Task
    task = task_of limit schema table (params x)

    inserted : (w : Written) (new : Database) → Puts task (L.to_row x) db (Ok w) → new ≡ left schema w.trees → Sets L schema (left schema db) new (insert_by L.key xs x)
    inserted w new found now =
        let edit = edit_of db table [] Given 0 (L.to_row x ∷ []) in
        let written = went found in
        let trees : w.trees ≡ written.0 = ap (λ (it : Written). it.trees) (same_value written.2) in
        let rows : edited db edit ≡ map L.to_row (insert_by L.key xs x) =
        ap₂ put_row (listed.casts x) (ap db listed.tree ∙ h.rows) ∙ puts-map L.key L.to_row L.keyed (x ∷ []) xs in
        sets L schema at table listed db new edit written.0 _ refl (applies schema db written.0 edit listed.quiet written.1) (now ∙ ap (left schema) trees) rows (IsKeyedBy-insert_by L.key xs x h.keyed)

    abbrev made : Row
    made = Int (L.key x) ∷ L.to_row x

    abbrev given_row : Row
    given_row = params x ++ Int (L.key x) ∷ shown table (L.to_row x)

    test_is : (y : X) → list_all (holds (given_row ∷ L.to_row y ∷ [])) (op2 (Compare Eq Binary) (col 1 0) (col 0 given) ∷ []) ≡ int_eq (L.key y) (L.key x)
    test_is y = last_term (ap₂ (λ a b. is_true (binary (Compare Eq Binary) a b)) (L.keyed y) (gives.place x (Int (L.key x))) ∙ at_ints false Eq (L.key y) (L.key x))

    made_from : (y : X) → L.key y ≡ L.key x → eval_all (col 1 0 ∷ more) (given_row ∷ L.to_row y ∷ []) ≡ made
    made_from y same =
        let id = L.keyed y ∙ ap Int same in
        ap₂ ◌∷◌ id (gives.updates x (Int (L.key x)) (L.to_row y) ∙ ap (λ v. v ∷ drop 1 (L.to_row x)) (id ∙ sym (L.keyed x)) ∙ gives.headed x)

    updated : (w : Written) (new : Database) → Updates task update given_row db (Ok w) → (y : X) → Has xs y → L.key y ≡ L.key x → new ≡ left schema w.trees → Sets L schema (left schema db) new (insert_by L.key xs x)
    updated w new found y there same now =
        let picked = went found in
        let k = L.key x in
        let filters = op2 (Compare Eq Binary) (col 1 0) (col 0 given) ∷ [] in
        let some = chosen L filters (col 1 0 ∷ more) given_row (λ z. int_eq (L.key z) k) test_is db xs picked.0 h (picked.1.answer Null) in
        let only = ap (map (λ z. eval_all (col 1 0 ∷ more) (given_row ∷ L.to_row z ∷ []))) (only_one L.key xs y k h.keyed there same) ∙ ap (λ r. r ∷ []) (made_from y same) in
        let rows_are : picked.0 ≡ made ∷ [] = one_permutation made picked.0 (subst (λ l. IsPermutation l picked.0) only some) in
        let edit = edit_of db table (ids_of picked.0) Given 1 picked.0 in
        let written = went picked.2 in
        let trees : w.trees ≡ written.0 = ap (λ (it : Written). it.trees) (same_value written.2) in
        let rows : edited db edit ≡ map L.to_row (insert_by L.key xs x) =
        ap (λ rs. edited db (edit_of db table (ids_of rs) Given 1 rs)) rows_are
        ∙ ap₂ put_row (listed.casts x) (ap (without_rowid k) (ap db listed.tree ∙ h.rows) ∙ deletes-map L.key L.to_row L.keyed (k ∷ []) xs)
        ∙ puts-map L.key L.to_row L.keyed (x ∷ []) (without_key L.key xs k) ∙ ap (map L.to_row) (removed_put L.key xs x h.keyed) in
        sets L schema at table listed db new edit written.0 _ refl (applies schema db written.0 edit listed.quiet written.1) (now ∙ ap (left schema) trees) rows (IsKeyedBy-insert_by L.key xs x h.keyed)

    -- a row that the target finds has the key
    conflicting : (r : Row) → conflicts (Some (0 ∷ [])) schema.indexes table (L.to_row x) r ≡ true → Has (db table.tree) r → (y : X) × Has xs y × (L.key y ≡ L.key x) × (rowid r ≡ Int (L.key x))
    conflicting r hit there =
        let source = has_source L.to_row xs r (subst (λ l. Has l r) (ap db listed.tree ∙ h.rows) there) in
        let y = source.0 in
        let id = ap rowid source.2 ∙ L.keyed y in
        let equals = (and_parts _ _ (or_first _ _ hit (gives.unshared (L.to_row x) r))).0 in
        let binary_is = ap (λ (k : Key). is_true (binary (Compare Eq k.collation) (rowid r) (rowid (L.to_row x)))) first_key-plain in
        let same : int_eq (L.key y) (L.key x) ≡ true =
        sym (at_ints false Eq (L.key y) (L.key x)) ∙ sym (ap₂ (λ a b. is_true (binary (Compare Eq Binary) a b)) id (L.keyed x)) ∙ sym binary_is ∙ equals in
        let key_is = same_int _ _ same in
        (y, source.1, key_is, id ∙ ap Int key_is)

    clears : (found : List Row) (w : Written) (new : Database) → Clears task Abort (L.to_row x) db found (Ok w) → new ≡ left schema w.trees → Sets L schema (left schema db) new (insert_by L.key xs x)
    clears [] w new it now = inserted w new it now
    clears (y ∷ more) w new it now = inserted w new it now

    meets : (found : List Row) (w : Written) (new : Database) → AreConflicts (Some (0 ∷ [])) schema.indexes table (db table.tree) (L.to_row x) found
        → Meets task (Upserts task Abort (L.to_row x) db []) (L.to_row x) db clause found (Ok w) → new ≡ left schema w.trees → Sets L schema (left schema db) new (insert_by L.key xs x)
    meets [] w new are it now = clears it.0 w new it.2 now
    meets (there ∷ rest) w new are it now =
        let hit = are.sound there (inl refl) in
        let row = conflicting hit.0 hit.2 hit.1 in
        let id : rowid there ≡ Int (L.key x) = ap rowid hit.3 ∙ row.3 in
        updated w new (subst (λ v. Updates task update (params x ++ v ∷ shown table (L.to_row x)) db (Ok w)) id it) row.0 row.1 row.2 now

    judged : (verdict : Option Refusal) (w : Written) (new : Database) → Judged task Abort (clause ∷ []) (L.to_row x) db verdict (Ok w) → new ≡ left schema w.trees
        → Sets L schema (left schema db) new (insert_by L.key xs x)
    judged None w new it now = meets it.0 w new it.1 it.2 now
    judged (Some why) w new it now = absurd cc

    tries : (w : Written) (new : Database) → Tries task Abort (clause ∷ []) (L.to_row x) db (Ok w) → new ≡ left schema w.trees → Sets L schema (left schema db) new (insert_by L.key xs x)
    tries w new (inl refused) now = absurd (let e = refused.1 in cc)
    tries w new (inr it) now = judged it.0 w new it.2 now

    -- the statement's one row
    put : (w : Written) (new : Database) → InsertsOr task Abort (clause ∷ []) (Values terms (length terms)) db (Ok w) → new ≡ left schema w.trees → Sets L schema (left schema db) new (insert_by L.key xs x)
    put w new it now =
        let sourced = went it in
        let rows_are : sourced.0 ≡ L.to_row x ∷ [] = sourced.1.1 ∙ gives.values x in
        let counted = went sourced.2 in
        let tried = went counted.2 in
        let last = went tried.2 in
        let top = count_of counted.0 in
        let each = subst (λ rs. TriesEach task Abort (clause ∷ []) rs top (nothing db) (Ok tried.0)) rows_are tried.1 in
        let one = went each in
        let there = db table.tree in
        let row_is : with_rowid (rowids_for table top) there (cast_row table (L.to_row x)) ≡ L.to_row x = ap (with_rowid (rowids_for table top) there) (listed.casts x) ∙ placed _ there (L.to_row x) (L.key x) (L.keyed x) in
        let done = subst (λ r. Tries task Abort (clause ∷ []) r db (Ok one.0)) row_is one.1 in
        let kept : last.0 ≡ tried.0.0.trees = not_counted task listed.uncounted tried.0.0.trees last.0 counted.0 tried.0.1 last.1 in
        let from : tried.0.0.trees ≡ one.0.trees = ap (λ (d : Written × ℤ). d.0.trees) (same_value one.2) in
        let end : w.trees ≡ last.0 = ap (λ (d : Written). d.trees) (same_value last.2) in
        tries one.0 new done (now ∙ ap (left schema) (end ∙ kept ∙ from))

puts_rows : (sql : List ℕ) (params : Row) (limit : Option ℕ) (text : List ℕ) (schema : Schema) (at : ℕ) (table : Table) (tree given : ℕ) (terms more : List Term) (db : Trees) (tally : Tally) (after : Database)
    → slice_get schema.tables at ≡ Some table → IsPut schema sql at tree given terms more → Leads schema sql params limit text db tally after
    → (w : Written)
    × InsertsOr (task_of limit schema table params) Abort (record { target = Some (0 ∷ []); update = Some (record { lets = []; body = chosen_query tree (op2 (Compare Eq Binary) (col 1 0) (col 0 given) ∷ []) (col 1 0 ∷ more) }) } ∷ [])
    (Values terms (length terms)) db (Ok w)
    × (after ≡ left schema w.trees)
puts_rows sql params limit text schema at table tree given terms more db tally after place is ran =
    let done = subst (λ k. Does limit steady params (left schema db) text None k (Ok (tally, after))) is.command ran in
    let found = went (rw place at done) in
    (found.0, found.1, concluded (task_of limit schema table params) steady found.0 (tally, after) found.2)

module _ {X : Type 0} (L : Layout X) (schema : Schema) (at : ℕ) (table : Table) (listed : Listed L schema at table) (given : ℕ) (terms more : List Term) (params : X → Row) (gives : Gives L schema table given terms more params) where
  pub puts : (sql : List ℕ) (x : X) → IsPut schema sql at L.tree given terms more → (limit : Option ℕ) (text : List ℕ) (db : Trees) (tally : Tally) (after : Database) (xs : List X) → Holds L db xs
      → Leads schema sql (params x) limit text db tally after → Sets L schema (left schema db) after (insert_by L.key xs x)
  puts sql x is limit text db tally after xs h ran =
      let it = puts_rows sql (params x) limit text schema at table L.tree given terms more db tally after listed.is is ran in
      put L schema at table listed given terms more params gives limit db xs h x it.0 after it.1 it.2
