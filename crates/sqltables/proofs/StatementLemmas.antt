-- The statements that there are on several tables, on one of them.
use Rattle.std.proofs.Common.{◌≡◌, ◌+◌, ℕ, ℤ, pos, zero, suc, Bool, true, Option, Some, List, [], ◌∷◌, map, filter, take, drop, ◌∙◌, refl, ap, Ordering}
use Rattle.sqltables.proofs.Words.{all_of, Alters, appended, Appends, as_count, Asks, Binary, by_then_key, col, Compare, delete_where, Eq, eval}
use Rattle.sqltables.proofs.Words.{eval_all, filter_all, Ge, Gt, holds, insert_by, Int, IsSelect, IsUpdate, Le, limited, limits, list_all, lit}
use Rattle.sqltables.proofs.Words.{next_key, Null, op2, output, output_cmp, Query, registry, Row, select_query, selects, sort_by, sorts, take-map}
use Rattle.sqltables.proofs.{Words.{Term, update_where, writes_tables}, TableLemmas.{Part, alters, asks}}
use Rattle.sqlrows.specs.inner.Layouts.{Gives, Numbers, IsPut, IsAppend, IsDelete, Renews, limited_query, no_limit, sorted_query}
use Rattle.sqlrows.proofs.{PutLemmas.puts, AppendLemmas.{appends, appends_last}, UpdateLemmas.updates, WriteLemmas.deletes}

-- ---- terms

-- so many columns of a row of the statement, from this one on
abbrev pub columns : ℕ → ℕ → ℕ → List Term
columns row at zero = []
columns row at (suc n) = col row at ∷ columns row (suc at) n

-- of a table with `n` columns beside its key: what a query shows of a row
abbrev pub all_columns : ℕ → List Term
all_columns n = col 1 0 ∷ columns 1 2 n

-- what VALUES makes of the parameters, and what the update then makes of a row with the same key
abbrev pub put_terms : ℕ → List Term
put_terms n = col 0 0 ∷ lit Null ∷ columns 0 1 n

abbrev pub set_terms : ℕ → List Term
set_terms n = col 1 0 ∷ lit Null ∷ columns 0 (n + 4) n

-- what an update makes of the row with a number: its key, and the parameters after the number
abbrev pub replace_terms : ℕ → List Term
replace_terms n = col 1 0 ∷ lit Null ∷ columns 0 1 n

-- what VALUES makes of the parameters without the key
abbrev pub append_terms : ℕ → List Term
append_terms n = lit Null ∷ lit Null ∷ columns 0 0 n

-- a column beside a parameter, and one that isn't below 0
abbrev pub equals : ℕ → ℕ → Term
equals column param = op2 (Compare Eq Binary) (col 1 column) (col 0 param)

abbrev pub at_most : ℕ → ℕ → Term
at_most column param = op2 (Compare Le Binary) (col 1 column) (col 0 param)

abbrev pub at_least : ℕ → ℕ → Term
at_least column param = op2 (Compare Ge Binary) (col 1 column) (col 0 param)

abbrev pub after : ℕ → ℕ → Term
after column param = op2 (Compare Gt Binary) (col 1 column) (col 0 param)

abbrev pub from_zero : ℕ → Term
from_zero column = op2 (Compare Ge Binary) (col 1 column) (lit (Int (pos 0)))

-- ---- limits

-- what LIMIT says is this number
abbrev pub Counts : Row → Term → ℕ → Type 0
Counts params limit count = as_count (eval limit (params ∷ [])) ≡ Some count

-- the first row alone, and as many as a parameter says
abbrev pub one : Term
one = lit (Int (pos 1))

abbrev pub given : ℕ → Term
given param = col 0 param

first-shown : {X : Type 0} (params : Row) (limit : Term) (count : ℕ) → Counts params limit count → (shown : X → Row) (xs : List X)
    → limited (as_count (eval limit (params ∷ []))) (map shown xs) ≡ map shown (take count xs)
first-shown params limit count counts shown xs = ap (λ (o : Option ℕ). limited o (map shown xs)) counts ∙ take-map shown count xs

-- ---- statements

module _ {X : Type 0} (T : Part X) where
  abbrev Tests : Row → List Term → (X → Bool) → Type 0
  Tests params filters p = (x : X) → list_all (holds (params ∷ T.layout.to_row x ∷ [])) filters ≡ p x

  abbrev Shows : Row → List Term → (X → Row) → Type 0
  Shows params project shown = (x : X) → eval_all project (params ∷ T.layout.to_row x ∷ []) ≡ shown x

  abbrev Orders : Row → Query → List (X → X → Ordering) → Type 0
  Orders params q by = (x y : X) → output_cmp q (output q (params ∷ T.layout.to_row x ∷ [])) (output q (params ∷ T.layout.to_row y ∷ [])) ≡ by_then_key T.layout by x y

  pub asks_all : {sql : List ℕ} {shown : X → Row} (n : ℕ) → IsSelect registry sql (select_query T.layout.tree [] (all_columns n)) → Shows [] (all_columns n) shown → Asks T.layout.tree shown sql [] T.rows
  asks_all {sql} {shown} n is shows = asks T shown sql [] _ (λ xs. xs) is refl (λ db xs rows h answer.
      selects T.layout [] (all_columns n) [] (λ _. true) shown (λ x. refl) shows db xs rows h answer ∙ ap (map shown) (filter_all (λ _. true) xs (all_of _ (λ x. refl) xs)))

  pub asks_first_of_all : {sql : List ℕ} {params : Row} {shown : X → Row} (n : ℕ) (limit : Term) (count : ℕ) → Counts params limit count → IsSelect registry sql (limited_query T.layout.tree [] (all_columns n) limit)
      → Shows params (all_columns n) shown → Asks T.layout.tree shown sql params (λ c. take count (T.rows c))
  asks_first_of_all {sql} {params} {shown} n limit count counts is shows = asks T shown sql params _ (take count) is refl (λ db xs rows h answer.
      limits T.layout [] (all_columns n) limit params (λ _. true) shown (λ x. refl) shows db xs rows h answer ∙ first-shown params limit count counts shown (filter (λ _. true) xs)
      ∙ ap (λ ys. map shown (take count ys)) (filter_all (λ _. true) xs (all_of _ (λ x. refl) xs)))

  module _ {sql : List ℕ} {params : Row} {shown : X → Row} {p : X → Bool} (n : ℕ) (filters : List Term) where
    pub asks_where : IsSelect registry sql (select_query T.layout.tree filters (all_columns n)) → Tests params filters p → Shows params (all_columns n) shown
        → Asks T.layout.tree shown sql params (λ c. filter p (T.rows c))
    asks_where is tests shows = asks T shown sql params _ (filter p) is refl (selects T.layout filters (all_columns n) params p shown tests shows)

    -- the first, as many as LIMIT says
    pub asks_first : (limit : Term) (count : ℕ) → Counts params limit count → IsSelect registry sql (limited_query T.layout.tree filters (all_columns n) limit) → Tests params filters p
        → Shows params (all_columns n) shown → Asks T.layout.tree shown sql params (λ c. take count (filter p (T.rows c)))
    asks_first limit count counts is tests shows = asks T shown sql params _ (λ xs. take count (filter p xs)) is refl (λ db xs rows h answer.
        limits T.layout filters (all_columns n) limit params p shown tests shows db xs rows h answer ∙ first-shown params limit count counts shown (filter p xs))

    -- in the order of some columns
    module _ (order : List Term) (by : List (X → X → Ordering)) where
      pub asks_sorted : IsSelect registry sql (sorted_query T.layout.tree filters (all_columns n) order no_limit) → Tests params filters p → Shows params (all_columns n) shown
          → Orders params (sorted_query T.layout.tree filters (all_columns n) order no_limit) by → Asks T.layout.tree shown sql params (λ c. sort_by (by_then_key T.layout by) (filter p (T.rows c)))
      asks_sorted is tests shows orders = asks T shown sql params _ (λ xs. sort_by (by_then_key T.layout by) (filter p xs)) is refl
          (sorts T.layout filters (all_columns n) order no_limit params p shown by tests shows orders)

      pub asks_first_sorted : (limit : Term) (count : ℕ) → Counts params limit count → IsSelect registry sql (sorted_query T.layout.tree filters (all_columns n) order limit) → Tests params filters p
          → Shows params (all_columns n) shown → Orders params (sorted_query T.layout.tree filters (all_columns n) order limit) by
          → Asks T.layout.tree shown sql params (λ c. take count (sort_by (by_then_key T.layout by) (filter p (T.rows c))))
      asks_first_sorted limit count counts is tests shows orders = asks T shown sql params _ (λ xs. take count (sort_by (by_then_key T.layout by) (filter p xs))) is refl (λ db xs rows h answer.
          sorts T.layout filters (all_columns n) order limit params p shown by tests shows orders db xs rows h answer ∙ first-shown params limit count counts shown (sort_by (by_then_key T.layout by) (filter p xs)))

  pub put_by : {sql : List ℕ} (shown : X → Row) (n : ℕ) → IsPut registry sql T.at T.layout.tree (suc n) (put_terms n) (set_terms n) → Gives T.layout registry T.table (suc n) (put_terms n) (set_terms n) shown
      → (x : X) → Alters T.layout.tree sql (shown x) (T.to (λ xs. insert_by T.layout.key xs x))
  put_by {sql} shown n is gives x = alters T sql (shown x) (λ xs. insert_by T.layout.key xs x) is.plain (ap writes_tables is.command)
      (puts T.layout registry T.at T.table T.listed (suc n) (put_terms n) (set_terms n) shown gives sql x is)

  pub append_by : {sql : List ℕ} (shown : X → Row) (numbered : X → ℤ → X) (n : ℕ) → IsAppend registry sql T.at (append_terms n) → Numbers T.layout T.table (append_terms n) (λ x. drop 1 (shown x)) numbered
      → (x : X) → Alters T.layout.tree sql (drop 1 (shown x)) (T.to (λ xs. appended T.layout (numbered x) xs))
  append_by {sql} shown numbered n is numbers x = alters T sql (drop 1 (shown x)) (λ xs. appended T.layout (numbered x) xs) is.plain (ap writes_tables is.command)
      (appends T.layout registry T.at T.table T.listed (append_terms n) (λ x. drop 1 (shown x)) numbered numbers sql x is)

  pub adds_by : {sql : List ℕ} (shown : X → Row) (numbered : X → ℤ → X) (n : ℕ) → IsAppend registry sql T.at (append_terms n) → Numbers T.layout T.table (append_terms n) (λ x. drop 1 (shown x)) numbered
      → (x : X) → Appends T.layout.tree sql (drop 1 (shown x)) (T.to (λ xs. appended T.layout (numbered x) xs)) (λ c. next_key T.layout.key (T.rows c))
  adds_by {sql} shown numbered n is numbers x = record {
    alters = append_by shown numbered n is numbers x;
    last = λ limit text db tally after xs h ran.
        appends_last T.layout registry T.at T.table T.listed (append_terms n) (λ x. drop 1 (shown x)) numbered numbers sql x is limit text db tally after (T.rows xs) (T.holds xs (record { schema = registry; trees = db }) h) ran;
  }

  pub remove_by : {sql : List ℕ} {params : Row} (p : X → Bool) (filters : List Term) → IsDelete registry sql T.at T.layout.tree filters → Tests params filters p
      → Alters T.layout.tree sql params (T.to (λ xs. delete_where p xs))
  remove_by {sql} {params} p filters is tests = alters T sql params (λ xs. delete_where p xs) is.plain (ap writes_tables is.command)
      (deletes T.layout registry T.at T.table T.listed sql params filters p tests is)

  pub update_by : {sql : List ℕ} {params : Row} (p : X → Bool) (f : X → X) (filters terms : List Term) → IsUpdate registry sql T.at T.layout.tree filters terms → Tests params filters p → Renews T.layout terms params f
      → Alters T.layout.tree sql params (T.to (λ xs. update_where p f xs))
  update_by {sql} {params} p f filters terms is tests renews = alters T sql params (λ xs. update_where p f xs) is.plain (ap writes_tables is.command)
      (updates T.layout registry T.at T.table T.listed sql params filters terms p f tests renews is)
