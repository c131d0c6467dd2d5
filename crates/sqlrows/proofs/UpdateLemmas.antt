-- What an update of the rows that pass a test does.
use Rattle.std.proofs.Common.{◌≡◌, ◌++◌, ◌&&◌, zero, suc, ℕ, Bool, true, false, not, cond, List, [], ◌∷◌, map, filter, drop, slice_get, Option, Some, None, Ok, refl, sym, ap, ap₂, ◌∙◌, subst, arith, add-one, Ordering, Less, Equal, Greater, is_eq, is_lt, true≢false, IsPermutation, IsSorted}
use Rattle.std.proofs.lemmas.{Bool.or_parts, Cmp.on_total, List.map-append}
use Rattle.std.proofs.lemmas.List.Sorted.{IsPermutation-refl, IsPermutation-sym, IsPermutation-trans, IsPermutation-cons, IsPermutation-middle, IsPermutation-append_left, IsPermutation-append_right}
use Rattle.std.specs.Cmp.{IsTotalOrder}
use Rattle.sqlrows.proofs.Words.{ascending-map, ascending_weaker, cast_row, chosen_query, col, Database, delete_where, deletes-map, Does, edit_of}
use Rattle.sqlrows.proofs.Words.{Given, Holds, holds, id_in, ids_of, IsAscending, IsKeyedBy, IsKeyedBy-delete_where, IsKeyedBy-update_where}
use Rattle.sqlrows.proofs.Words.{IsPermutation-map, IsUpdate, Layout, Leads, Less-from_lt, list_all, Listed, map-map, map_same, match_ordering, Null}
use Rattle.sqlrows.proofs.Words.{ordering_reverse, put_row, Renews, Row, rowid, Schema, Sets, steady, Table, Tally, Term, Trees, update_where}
use Rattle.sqlrows.proofs.{Words.{Updates, value_cmp, without_all, Written}, ListLemmas.removes_in_order}
use Rattle.sqlrows.proofs.WriteLemmas.{went, same_value, concluded, task_of, left, applies, sets, chosen}
use Rattle.sqlite_value.proofs.OrderLemmas.{value_cmp_total, value_cmp-Int}
use Rattle.sqlite_trees.specs.Tree.{IsTable}
use Rattle.sqlite_trees.proofs.TreeLemmas.{IsTable-put_row}
use Rattle.sqlite_rules.specs.Edit.{is_taken, are_fresh, numbered, put_all, left_by}
use Rattle.sqlite_keyed.proofs.SortLemmas.{sorted_unique}

sorted_if_rising : {X : Type 0} (cmp : X → X → Ordering) → IsTotalOrder cmp → (xs : List X) → IsAscending (λ a b. cmp a b ≡ Less) xs → IsSorted cmp xs
sorted_if_rising cmp total [] up k d p q = absurd (omega arith)
sorted_if_rising cmp total (x ∷ []) up k d p q = absurd (omega arith)
sorted_if_rising cmp total (x ∷ y ∷ xs) up zero d p q = ap is_lt (total.antisymm y x ∙ ap ordering_reverse up.0.0)
sorted_if_rising cmp total (x ∷ y ∷ xs) up (suc k) d p q = rw add-one (rw add-one at (sorted_if_rising cmp total (y ∷ xs) up.1 k d (omega arith) (omega arith)))

-- a table has one order
one_table : (rows others : List Row) → IsTable rows → IsTable others → IsPermutation rows others → others ≡ rows
one_table rows others up up' same =
    let total : IsTotalOrder (λ (a b : Row). value_cmp (rowid a) (rowid b)) = on_total rowid value_cmp_total in
    sorted_unique _ total rows others up same (sorted_if_rising _ total others up')

numbered_given : (rows news : List Row) → numbered Given rows news ≡ news
numbered_given rows [] = refl
numbered_given rows (r ∷ news) = ap (λ l. r ∷ l) (numbered_given (put_row r rows) news)

put_beside : (new : Row) (rows : List Row) → is_taken rows new ≡ false → IsPermutation (put_row new rows) (new ∷ rows)
put_beside new [] free = IsPermutation-refl _
put_beside new (r ∷ rows) free = let parts = or_parts _ _ free in go (value_cmp (rowid r) (rowid new)) parts.0 (put_beside new rows parts.1)
  where
    go : (o : Ordering) → is_eq o ≡ false → IsPermutation (put_row new rows) (new ∷ rows) → IsPermutation (match_ordering o (r ∷ put_row new rows) (new ∷ rows) (new ∷ r ∷ rows)) (new ∷ r ∷ rows)
    go Less e more = IsPermutation-trans _ _ _ (IsPermutation-cons r _ _ more) (IsPermutation-middle (r ∷ []) new rows)
    go Equal e more = absurd (true≢false e)
    go Greater e more = IsPermutation-refl _

fresh_parts : (a b : Bool) → (not a && b) ≡ true → (a ≡ false) × (b ≡ true)
fresh_parts true b h = absurd (true≢false (sym h))
fresh_parts false b h = (refl, h)

-- rows with rowids that are free come beside the others
put_all_beside : (news rows : List Row) → are_fresh rows news ≡ true → IsPermutation (put_all rows news) (news ++ rows)
put_all_beside [] rows fresh = IsPermutation-refl _
put_all_beside (n ∷ news) rows fresh =
    let parts = fresh_parts _ _ fresh in
    IsPermutation-trans _ _ _ (put_all_beside news (put_row n rows) parts.1)
    (IsPermutation-trans _ _ _ (IsPermutation-append_right news _ _ (put_beside n rows parts.0)) (IsPermutation-middle news n rows))

IsTable-put_all : (news rows : List Row) → IsTable rows → IsTable (put_all rows news)
IsTable-put_all [] rows up = up
IsTable-put_all (n ∷ news) rows up = IsTable-put_all news (put_row n rows) (IsTable-put_row n rows up)

-- an updated list has what the update makes of those that pass, and the others
updated_parts : {X : Type 0} (p : X → Bool) (f : X → X) (xs : List X) → IsPermutation (update_where p f xs) (map f (filter p xs) ++ delete_where p xs)
updated_parts p f [] = IsPermutation-refl _
updated_parts p f (x ∷ xs) = go (p x) (updated_parts p f xs)
  where
    go : (b : Bool) → IsPermutation (update_where p f xs) (map f (filter p xs) ++ delete_where p xs)
        → IsPermutation (cond b (f x) x ∷ update_where p f xs) (map f (cond b (x ∷ filter p xs) (filter p xs)) ++ cond (not b) (x ∷ delete_where p xs) (delete_where p xs))
    go true more = IsPermutation-cons (f x) _ _ more
    go false more = IsPermutation-trans _ _ _ (IsPermutation-cons x _ _ more) (IsPermutation-sym _ _ (IsPermutation-middle (map f (filter p xs)) x (delete_where p xs)))

updates_rows : (sql : List ℕ) (params : Row) (limit : Option ℕ) (text : List ℕ) (schema : Schema) (at : ℕ) (table : Table) (tree : ℕ) (filters terms : List Term) (db : Trees) (tally : Tally) (after : Database)
    → slice_get schema.tables at ≡ Some table → IsUpdate schema sql at tree filters terms → Leads schema sql params limit text db tally after
    → (w : Written) × Updates (task_of limit schema table params) (record { lets = []; body = chosen_query tree filters (col 1 0 ∷ terms) }) params db (Ok w) × (after ≡ left schema w.trees)
updates_rows sql params limit text schema at table tree filters terms db tally after place is ran =
    let done = subst (λ k. Does limit steady params (left schema db) text None k (Ok (tally, after))) is.command ran in
    let found = went (rw place at done) in
    (found.0, found.1, concluded (task_of limit schema table params) steady found.0 (tally, after) found.2)

module _ {X : Type 0} (L : Layout X) where
  rises : (xs : List X) → IsKeyedBy L.key xs → IsTable (map L.to_row xs)
  rises xs up =
      ascending-map (λ a b. value_cmp (rowid a) (rowid b) ≡ Less) L.to_row xs
      (ascending_weaker _ (λ a b. value_cmp (rowid (L.to_row a)) (rowid (L.to_row b)) ≡ Less) (λ a b h. ap₂ value_cmp (L.keyed a) (L.keyed b) ∙ value_cmp-Int _ _ ∙ Less-from_lt _ _ h) xs up)

  -- in whatever order the updated rows are put beside the others
  put_back : (p : X → Bool) (f : X → X) → ((x : X) → L.key (f x) ≡ L.key x) → (xs : List X) (news : List Row) → IsKeyedBy L.key xs
      → IsPermutation (map (λ x. L.to_row (f x)) (filter p xs)) news → are_fresh (map L.to_row (delete_where p xs)) news ≡ true
      → put_all (map L.to_row (delete_where p xs)) news ≡ map L.to_row (update_where p f xs)
  put_back p f keeps xs news up same fresh =
      let others = map L.to_row (delete_where p xs) in
      let parts = IsPermutation-map L.to_row _ _ (updated_parts p f xs) in
      let split : map L.to_row (map f (filter p xs) ++ delete_where p xs) ≡ map (λ x. L.to_row (f x)) (filter p xs) ++ others =
      map-append L.to_row _ _ ∙ ap (λ l. l ++ others) (map-map L.to_row f (filter p xs)) in
      let all = IsPermutation-trans _ _ _ (subst (IsPermutation (map L.to_row (update_where p f xs))) split parts)
      (IsPermutation-trans _ _ _ (IsPermutation-append_left others _ _ same) (IsPermutation-sym _ _ (put_all_beside news others fresh))) in
      one_table _ _ (rises _ (IsKeyedBy-update_where L.key p f keeps xs up)) (IsTable-put_all news others (rises _ (IsKeyedBy-delete_where L.key p xs up))) all

module _ {X : Type 0} (L : Layout X) (schema : Schema) (at : ℕ) (table : Table) (listed : Listed L schema at table) where
  updated : (params : Row) (limit : Option ℕ) (filters terms : List Term) (p : X → Bool) (f : X → X) (db : Trees) (xs : List X) (w : Written) (new : Database) → ((x : X) → list_all (holds (params ∷ L.to_row x ∷ [])) filters ≡ p x)
      → Renews L terms params f → Holds L db xs → Updates (task_of limit schema table params) (record { lets = []; body = chosen_query L.tree filters (col 1 0 ∷ terms) }) params db (Ok w) → new ≡ left schema w.trees
      → Sets L schema (left schema db) new (update_where p f xs)
  updated params limit filters terms p f db xs w new tests renews h found now =
      let given = went found in
      let rows = given.0 in
      let edit = edit_of db table (ids_of rows) Given 1 rows in
      let written = went given.2 in
      let done = applies schema db written.0 edit listed.quiet written.1 in
      let some = chosen L filters (col 1 0 ∷ terms) params p tests db xs rows h (given.1.answer Null) in
      let ids : IsPermutation (map L.key (filter p xs)) (ids_of rows) =
      subst (λ l. IsPermutation l (ids_of rows)) (map-map _ _ (filter p xs) ∙ map_same _ _ (λ x. ap id_in (L.keyed x)) (filter p xs)) (IsPermutation-map (λ r. id_in (rowid r)) _ _ some) in
      let cast : Row → Row = λ s. cast_row table (drop 1 s) in
      let news : IsPermutation (map (λ x. L.to_row (f x)) (filter p xs)) (map cast rows) =
      subst (λ l. IsPermutation l (map cast rows)) (map-map _ _ (filter p xs) ∙ map_same _ _ (λ x. ap (cast_row table) (renews.row x) ∙ listed.casts (f x)) (filter p xs)) (IsPermutation-map cast _ _ some) in
      let others : left_by db edit ≡ map L.to_row (delete_where p xs) =
      ap (λ l. without_all l (ids_of rows)) (ap db listed.tree ∙ h.rows) ∙ deletes-map L.key L.to_row L.keyed (ids_of rows) xs ∙ ap (map L.to_row) (removes_in_order L.key p xs (ids_of rows) h.keyed ids) in
      let given_news : edit.news ≡ map cast rows = numbered_given _ _ in
      let fresh : are_fresh (map L.to_row (delete_where p xs)) (map cast rows) ≡ true = sym (ap₂ are_fresh others given_news) ∙ done.fresh in
      let trees : w.trees ≡ written.0 = ap (λ (it : Written). it.trees) (same_value written.2) in
      sets L schema at table listed db new edit written.0 (update_where p f xs) refl done (now ∙ ap (left schema) trees)
      (ap₂ put_all others given_news ∙ put_back L p f renews.key xs (map cast rows) h.keyed news fresh)
      (IsKeyedBy-update_where L.key p f renews.key xs h.keyed)

  pub updates : (sql : List ℕ) (params : Row) (filters terms : List Term) (p : X → Bool) (f : X → X) → ((x : X) → list_all (holds (params ∷ L.to_row x ∷ [])) filters ≡ p x)
      → Renews L terms params f → IsUpdate schema sql at L.tree filters terms → (limit : Option ℕ) (text : List ℕ) (db : Trees) (tally : Tally) (after : Database) (xs : List X) → Holds L db xs
      → Leads schema sql params limit text db tally after → Sets L schema (left schema db) after (update_where p f xs)
  updates sql params filters terms p f tests renews is limit text db tally after xs h ran =
      let it = updates_rows sql params limit text schema at table L.tree filters terms db tally after listed.is is ran in
      updated params limit filters terms p f db xs it.0 after tests renews h it.1 it.2
