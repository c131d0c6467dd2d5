-- A row of a table in which no name comes twice, put or added.
use Rattle.std.proofs.Common.{◌≡◌, ℕ, ℤ, List, [], ◌∷◌, ◌++◌, Option, Some, None, sym, ap, subst, ◌∙◌}
use Rattle.sqlobjects.proofs.Words.{Content, insert_by, IsConsistent, IsPlaced, IsPlacedAt, IsRowPlaced, NamedTable, next_key}
use Rattle.sqlobjects.proofs.{Words.{rows_named, rows_of, with_last, with_replaced}, PutLemmas.{placed-added, placed-put, row_there}}
use Rattle.sqlrows.proofs.ReplaceLemmas.{replaced-is-put}

module _ {R : Type 0} (t : NamedTable R) where
  -- in the place of the row of its name
  pub replaced-placed : (xs : Content) (found given row : R) → row ≡ t.numbered given (t.key found) → IsPlacedAt t (Some found) given row xs (with_replaced t row xs)
  replaced-placed xs found given row is consistent there =
      let number : t.key row ≡ t.key found = ap t.key is ∙ t.number_is given (t.key found) in
      let name : t.name row ≡ t.name given = ap t.name is ∙ t.name_is given (t.key found) in
      let all : List R = insert_by t.key (t.rows xs) row in
      let has = row_there t.key t.name (t.name given) (t.rows xs) found there in
      let put : t.with_rows all xs ≡ with_replaced t row xs =
      ap (λ l. t.with_rows l xs) (sym (replaced-is-put t.key (t.rows xs) found row (λ it. t.numbered row (t.key it)) (t.keyed xs consistent) has.0 (sym number) (λ it e. ap (t.numbered row) e ∙ t.itself row))) in
      subst (IsRowPlaced t (λ it. it ≡ t.numbered given (t.key it)) (t.name given) row xs) put (record {
        is = is ∙ ap (t.numbered given) (sym number);
        rows = subst (IsPlaced t.name (t.name given) row (t.rows xs)) (sym (t.rows_are all xs)) (placed-put t.key t.name (t.name given) (t.rows xs) found there (t.keyed xs consistent) row number name);
        rest = ap (λ l. t.with_rows l xs) (sym (t.rows_are all xs));
      })

  -- after the others, under the number that it gets
  pub added-placed : (xs m : Content) (given row : R) → m ≡ with_last t given xs → row ≡ t.numbered given (next_key t.key (t.rows xs)) → IsPlacedAt t None given row xs m
  added-placed xs m given row content is consistent none =
      let k : ℤ = next_key t.key (t.rows xs) in
      let added : R = t.numbered given k in
      let rows : t.rows m ≡ t.rows xs ++ added ∷ [] = ap t.rows content ∙ t.rows_are (t.rows xs ++ added ∷ []) xs in
      record {
        is = is ∙ ap (t.numbered given) (sym (ap t.key is ∙ t.number_is given k));
        rows = subst (λ r. IsPlaced t.name (t.name given) r (t.rows xs) (t.rows m)) (sym is)
            (subst (IsPlaced t.name (t.name given) added (t.rows xs)) (sym rows) (placed-added t.key t.name (t.name given) (t.rows xs) added (t.name_is given k)));
        rest = content ∙ ap (λ l. t.with_rows l xs) (sym rows);
      }

  -- what is in the row that was given, under whatever number, is in the row that came of it
  pub placed-as : (is_row : R → Type 0) (n : List ℕ) (found : Option R) (given row : R) (xs ys : Content) → t.name given ≡ n → ((k : ℤ) → is_row (t.numbered given k)) → rows_named t n xs ≡ rows_of found
      → IsPlacedAt t found given row xs ys → IsConsistent xs → IsRowPlaced t is_row n row xs ys
  placed-as is_row n found given row xs ys name again there step consistent =
      let placed = step consistent (ap (λ m. rows_named t m xs) name ∙ there) in
      record {
        is = subst is_row (sym placed.is) (again (t.key row));
        rows = subst (λ m. IsPlaced t.name m row (t.rows xs) (t.rows ys)) name placed.rows;
        rest = placed.rest;
      }
