-- What an insertion without a key does.
use Rattle.std.proofs.Common.{◌≡◌, ◌+ℤ◌, ℕ, ℤ, pos, List, [], ◌∷◌, map, drop, fold, length, slice_get, Option, Some, None, Ok, false, refl, sym, ap, ap₂, ◌∙◌, subst}
use Rattle.sqlrows.proofs.Words.{appended, cast_row, Chosen, count_of, Database, Does, edit_of, edited, Holds, id_in, insert_by, Inserts, Int}
use Rattle.sqlrows.proofs.Words.{IsAppend, IsKeyedBy, IsKeyedBy-insert_by, last_id, Layout, Leads, Listed, next_key, next_rowid, Null, Numbers}
use Rattle.sqlrows.proofs.Words.{put_row, puts-map, Row, rowid, rowids_for, Schema, Sets, steady, Table, Tally, Task, Term, Trees, with_rowid}
use Rattle.sqlrows.proofs.{Words.{with_rowids, Written}, WriteLemmas.{went, same_value, concluded, noted, task_of, left, applies, sets}}
use Rattle.sqlrows.proofs.PutLemmas.{not_counted}
use Rattle.sqlite_schema.specs.declared.command.Source.TheVariants.{Values}
use Rattle.sqlite_keyed.proofs.SliceLemmas.{insert_next}

-- the rowid that is chosen is the next key
numbers_next : {X : Type 0} (L : Layout X) (a : ℤ) (xs : List X) → fold (λ _ r. id_in (rowid r) +ℤ pos 1) a (map L.to_row xs) ≡ fold (λ _ x. L.key x +ℤ pos 1) a xs
numbers_next L a [] = refl
numbers_next L a (x ∷ xs) = ap (λ v. fold (λ _ r. id_in (rowid r) +ℤ pos 1) (id_in v +ℤ pos 1) (map L.to_row xs)) (L.keyed x) ∙ numbers_next L (L.key x +ℤ pos 1) xs

chosen_if_uncounted : (table : Table) (top : ℤ) → table.is_counted ≡ false → rowids_for table top ≡ Chosen
chosen_if_uncounted table top none = rw none

module _ {X : Type 0} (L : Layout X) (schema : Schema) (at : ℕ) (table : Table) (listed : Listed L schema at table) (terms : List Term) (params : X → Row) (numbered : X → ℤ → X) (numbers : Numbers L table terms params numbered) where
  key_is : (x : X) (id : ℤ) → L.key (numbered x id) ≡ id
  key_is x id = let given = sym (L.keyed (numbered x id)) ∙ ap rowid (numbers.row x id) in cc

  module _ (limit : Option ℕ) (db : Trees) (xs : List X) (h : Holds L db xs) (x : X) where
    abbrev task : Task
    task = task_of limit schema table (params x)

    abbrev bare : Row
    bare = Null ∷ drop 1 (L.to_row x)

    abbrev last : X
    last = numbered x (next_key L.key xs)

    stored : db table.tree ≡ map L.to_row xs
    stored = ap db listed.tree ∙ h.rows

    row_is : (top : ℤ) → with_rowid (rowids_for table top) (db table.tree) (cast_row table bare) ≡ L.to_row last
    row_is top =
        ap₂ (λ ids row. with_rowid ids (db table.tree) row) (chosen_if_uncounted table top listed.uncounted) (numbers.casts x)
        ∙ ap (λ id. Int id ∷ drop 1 (L.to_row x)) (ap next_rowid stored ∙ numbers_next L (pos 1) xs) ∙ sym (numbers.row x (next_key L.key xs))

    at_end : IsKeyedBy L.key xs → insert_by L.key xs last ≡ appended L (numbered x) xs
    at_end up = insert_next L.key xs last up (key_is x (next_key L.key xs))

    inserted : (w : Written) (new : Database) → Inserts task (Values terms (length terms)) db (Ok w) → new ≡ left schema w.trees → Sets L schema (left schema db) new (appended L (numbered x) xs)
    inserted w new it now =
        let sourced = went it in
        let rows_are : sourced.0 ≡ bare ∷ [] = sourced.1.1 ∙ numbers.values x in
        let counted = went sourced.2 in
        let top = count_of counted.0 in
        let edit = edit_of db table [] (rowids_for table top) 0 sourced.0 in
        let written = went counted.2 in
        let counts = went written.2 in
        let kept : counts.0 ≡ written.0 = not_counted task listed.uncounted written.0 counts.0 counted.0 _ counts.1 in
        let trees : w.trees ≡ counts.0 = ap (λ (done : Written). done.trees) (same_value counts.2) in
        let rows : edited db edit ≡ map L.to_row (appended L (numbered x) xs) =
        ap (λ rs. edited db (edit_of db table [] (rowids_for table top) 0 rs)) rows_are
        ∙ ap₂ put_row (row_is top) stored ∙ puts-map L.key L.to_row L.keyed (last ∷ []) xs ∙ ap (map L.to_row) (at_end h.keyed) in
        sets L schema at table listed db new edit written.0 _ refl (applies schema db written.0 edit listed.quiet written.1) (now ∙ ap (left schema) (trees ∙ kept)) rows
        (subst (IsKeyedBy L.key) (at_end h.keyed) (IsKeyedBy-insert_by L.key xs last h.keyed))

    -- the rowid that is noted is the next key
    numbered_last : (w : Written) → Inserts task (Values terms (length terms)) db (Ok w) → w.last ≡ Some (next_key L.key xs)
    numbered_last w it =
        let sourced = went it in
        let rows_are : sourced.0 ≡ bare ∷ [] = sourced.1.1 ∙ numbers.values x in
        let counted = went sourced.2 in
        let top = count_of counted.0 in
        let counts = went (went counted.2).2 in
        ap (λ (done : Written). done.last) (same_value counts.2)
        ∙ ap (λ rs. last_id (with_rowids (rowids_for table top) (db table.tree) (map (λ s. cast_row table (drop 0 s)) rs))) rows_are
        ∙ ap (λ (r : Row). Some (id_in (rowid r))) (row_is top)
        ∙ ap (λ v. Some (id_in v)) (L.keyed last) ∙ ap Some (key_is x (next_key L.key xs))

appends_rows : (sql : List ℕ) (params : Row) (limit : Option ℕ) (text : List ℕ) (schema : Schema) (at : ℕ) (table : Table) (terms : List Term) (db : Trees) (tally : Tally) (after : Database)
    → slice_get schema.tables at ≡ Some table → IsAppend schema sql at terms → Leads schema sql params limit text db tally after
    → (w : Written) × Inserts (task_of limit schema table params) (Values terms (length terms)) db (Ok w) × (after ≡ left schema w.trees) × (tally.last ≡ w.last)
appends_rows sql params limit text schema at table terms db tally after place is ran =
    let done = subst (λ k. Does limit steady params (left schema db) text None k (Ok (tally, after))) is.command ran in
    let found = went (rw place at done) in
    let task = task_of limit schema table params in
    (found.0, found.1, concluded task steady found.0 (tally, after) found.2, noted task steady found.0 (tally, after) found.2)

module _ {X : Type 0} (L : Layout X) (schema : Schema) (at : ℕ) (table : Table) (listed : Listed L schema at table) (terms : List Term) (params : X → Row) (numbered : X → ℤ → X) (numbers : Numbers L table terms params numbered) where
  pub appends : (sql : List ℕ) (x : X) → IsAppend schema sql at terms → (limit : Option ℕ) (text : List ℕ) (db : Trees) (tally : Tally) (after : Database) (xs : List X) → Holds L db xs
      → Leads schema sql (params x) limit text db tally after → Sets L schema (left schema db) after (appended L (numbered x) xs)
  appends sql x is limit text db tally after xs h ran =
      let it = appends_rows sql (params x) limit text schema at table terms db tally after listed.is is ran in
      inserted L schema at table listed terms params numbered numbers limit db xs h x it.0 after it.1 it.2

  pub appends_last : (sql : List ℕ) (x : X) → IsAppend schema sql at terms → (limit : Option ℕ) (text : List ℕ) (db : Trees) (tally : Tally) (after : Database) (xs : List X) → Holds L db xs
      → Leads schema sql (params x) limit text db tally after → tally.last ≡ Some (next_key L.key xs)
  appends_last sql x is limit text db tally after xs h ran =
      let it = appends_rows sql (params x) limit text schema at table terms db tally after listed.is is ran in
      it.3 ∙ numbered_last L schema at table listed terms params numbered numbers limit db xs h x it.0 it.1
