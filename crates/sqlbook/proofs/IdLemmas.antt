-- Rows of accounts whose ids are the same, number by number, give the same ids.
use Rattle.std.proofs.Common.{◌≡◌, ℕ, ℤ, ◌<ℤ◌, ◌+◌, Bool, true, false, not, cond, T, length, List, [], ◌∷◌, ◌++◌, map, filter, pos, Option, Some, None, option_map, option_and_then, refl, sym, ap, subst, ◌∙◌, int_cmp, int_eq}
use Rattle.std.proofs.lemmas.{Bool.and_from, Cmp.int_ranked}
use Rattle.std.specs.{Cmp.{eq_by_cmp_equiv, int_cmp_total}, FinMap.Entries.{below_all, find, is_sorted, same_entries}, Ordering.is_lt}
use Rattle.std.specs.declared.cmp.Ordering.TheVariants.{Equal}
use Rattle.sqlbook.proofs.Words.{AccountRow, AllByRecursion, get_by, ids_behind, ids_in, is_unnamed, IsKeyedBy}
use Rattle.sqlite_keyed.proofs.{KeyedLemmas.{Less-from_lt, get_by-filter}, ListLemmas.ascending-filter}
use Rattle.sqltables.specs.Account as table

abbrev pub key : AccountRow → ℤ
key = table.accounts.key

abbrev pub ident_in : Option AccountRow → Option (List ℕ)
ident_in o = option_map (λ (row : AccountRow). row.ident) o

abbrev is_named : AccountRow → Bool
is_named row = not (is_unnamed row.ident)

-- an ident, if it is an id
abbrev pub name_of : Option (List ℕ) → Option (List ℕ)
name_of None = None
name_of (Some ident) = cond (is_unnamed ident) None (Some ident)

abbrev pub name_in : Option AccountRow → Option (List ℕ)
name_in o = name_of (ident_in o)

abbrev numbered : AccountRow → ℤ × List ℕ
numbered row = (row.id, row.ident)

abbrev names_of : List AccountRow → List (ℤ × List ℕ)
names_of rows = map numbered (filter is_named rows)

abbrev ids_from : List (List ℕ) → List (ℤ × List ℕ) → Option (List (List ℕ))
ids_from ids [] = Some ids
ids_from ids (e ∷ es) = cond (int_eq e.0 (pos (length ids + 1))) (ids_from (ids ++ e.1 ∷ []) es) None

ids-named : (rows : List AccountRow) (ids : List (List ℕ)) → ids_behind ids rows ≡ ids_from ids (names_of rows)
ids-named [] ids = refl
ids-named (row ∷ rows) ids = go (is_unnamed row.ident) (ids-named rows)
  where
    go : (b : Bool) → ((more : List (List ℕ)) → ids_behind more rows ≡ ids_from more (names_of rows))
        → cond b (ids_behind ids rows) (cond (int_eq row.id (pos (length ids + 1))) (ids_behind (ids ++ row.ident ∷ []) rows) None)
        ≡ ids_from ids (map numbered (cond (not b) (row ∷ filter is_named rows) (filter is_named rows)))
    go true more = more ids
    go false more = ap (λ o. cond (int_eq row.id (pos (length ids + 1))) o None) (more (ids ++ row.ident ∷ []))

found-numbered : (rows : List AccountRow) (id : ℤ) → find int_cmp id (map numbered rows) ≡ ident_in (get_by key rows id)
found-numbered [] id = refl
found-numbered (row ∷ rows) id =
    ap (λ b. cond b (Some row.ident) (find int_cmp id (map numbered rows))) ((eq_by_cmp_equiv int_cmp_total).symm id row.id) ∙ go (int_eq row.id id) (found-numbered rows id)
  where
    go : (b : Bool) → find int_cmp id (map numbered rows) ≡ ident_in (get_by key rows id) → cond b (Some row.ident) (find int_cmp id (map numbered rows)) ≡ ident_in (cond b (Some row) (get_by key rows id))
    go true more = refl
    go false more = more

found-name : (rows : List AccountRow) (id : ℤ) → IsKeyedBy key rows → find int_cmp id (names_of rows) ≡ name_in (get_by key rows id)
found-name rows id up = found-numbered (filter is_named rows) id ∙ ap ident_in (get_by-filter key is_named rows id up) ∙ go (get_by key rows id)
  where
    by : (row : AccountRow) (b : Bool) → ident_in (cond (not b) (Some row) None) ≡ cond b None (Some row.ident)
    by row true = refl
    by row false = refl

    go : (o : Option AccountRow) → ident_in (option_and_then (λ row. cond (is_named row) (Some row) None) o) ≡ name_in o
    go None = refl
    go (Some row) = by row (is_unnamed row.ident)

below : (k : ℤ) (rows : List AccountRow) → AllByRecursion (λ row. k <ℤ key row) rows → below_all int_cmp k (map numbered rows) ≡ true
below k [] up = refl
below k (row ∷ rows) up = and_from (is_lt (int_cmp k row.id)) (below_all int_cmp k (map numbered rows)) (ap is_lt (Less-from_lt k row.id up.0)) (below k rows up.1)

sorted : (rows : List AccountRow) → IsKeyedBy key rows → is_sorted int_cmp (map numbered rows) ≡ true
sorted [] up = refl
sorted (row ∷ rows) up = and_from (below_all int_cmp row.id (map numbered rows)) (is_sorted int_cmp (map numbered rows)) (below row.id rows up.0) (sorted rows up.1)

sorted-names : (rows : List AccountRow) → IsKeyedBy key rows → T (is_sorted int_cmp (names_of rows))
sorted-names rows up = subst T (sym (sorted (filter is_named rows) (ascending-filter (λ a b. key a <ℤ key b) is_named rows up))) tt

pub same-ids : (xs bs : List AccountRow) → IsKeyedBy key xs → IsKeyedBy key bs → ((id : ℤ) → name_in (get_by key xs id) ≡ name_in (get_by key bs id)) → ids_in xs ≡ ids_in bs
same-ids xs bs up down same =
    ids-named xs []
    ∙ ap (ids_from []) (same_entries int_cmp int_cmp_total (λ x y e. int_ranked x y Equal (sym e)) (names_of xs) (names_of bs) (sorted-names xs up) (sorted-names bs down) (λ id. found-name xs id up ∙ same id ∙ sym (found-name bs id down)))
    ∙ sym (ids-named bs [])
