-- Rows by a test.
use Rattle.std.proofs.Common.{◌≡◌, ◌^◌, ◌-◌, Err, ℕ, Bool, true, false, List, [], ◌∷◌, map, filter, unwrap_or, cond, nat_le, slice_get, None, Result, Ok, refl, sym, ap₂, ◌∙◌, int_cmp, map-id, ℤ, Option, Ordering, Less}
use Rattle.sqlrows.proofs.Words.{command_of, Compiled, CompileError, eval_all, Holds, holds, Int, Layout, list_all, Row, sort_by, Term, Trees}
use Rattle.sqlrows.proofs.Words.{value_cmp}
use Rattle.sqlite_value.proofs.OrderLemmas.{value_cmp-Int, value_cmp-Null, then-Equal}
use Rattle.sqlite_sql.specs.{Query.{IsAnswer, output, output_cmp, page}, Program.overlay}
use Rattle.sqlite_typed.proofs.AnswerLemmas.{at_end, last_table, answer_by_keys, answer_sorted, IsNoTie, no_tie, no_tie_after}
use Rattle.sqlite_typed.proofs.TestLemmas.{value_cmp-or_null}
use Rattle.sqlite_typed.specs.{Columns.or_null, Tests.nulls_first}
use Rattle.sqlite.proofs.Callers as callers
use Rattle.sqlrows.specs.inner.Layouts.{select_query, limited_query, no_limit, sorted_query, by_then_key}

pub same_command : (r : Result Compiled CompileError) → callers.command_of r ≡ command_of r
same_command (Ok c) = refl
same_command (Err e) = refl

pub overlay_none : (db : Trees) (t : ℕ) → overlay db [] t ≡ db t
overlay_none db t = elim (nat_le (2 ^ 31) t) as (λ b. unwrap_or (cond b (slice_get [] (t - 2 ^ 31)) None) (db t) ≡ db t) [ true ↦ refl | false ↦ refl ]

module _ {X : Type 0} (L : Layout X) (filters project : List Term) (limit : Term) (params : Row) (p : X → Bool) (shown : X → Row)
    (tests : (x : X) → list_all (holds (params ∷ L.to_row x ∷ [])) filters ≡ p x)
    (shows : (x : X) → eval_all project (params ∷ L.to_row x ∷ []) ≡ shown x) where
  -- the first of the rows, by key
  pub limits : (db : Trees) (xs : List X) (rows : List Row) → Holds L db xs → IsAnswer (limited_query L.tree filters project limit) (overlay db []) params rows
      → rows ≡ page (limited_query L.tree filters project limit) params (map shown (filter p xs))
  limits db xs rows h answer =
      let q = limited_query L.tree filters project limit in
      let stored : overlay db [] L.tree ≡ map L.to_row xs = overlay_none db L.tree ∙ h.rows in
      let source = last_table (overlay db []) L.tree L.to_row L.key xs stored h.keyed (at_end (overlay db [])) in
      let ordered : (a b : X) → output_cmp q (output q (params ∷ L.to_row a ∷ [])) (output q (params ∷ L.to_row b ∷ [])) ≡ int_cmp (L.key a) (L.key b) =
      λ a b. then-Equal _ ∙ ap₂ value_cmp (L.keyed a) (L.keyed b) ∙ value_cmp-Int _ _ in
      let all = answer_by_keys q (overlay db []) params source p tests (λ r. r) shown shows refl refl ordered rows answer in
      sym (map-id rows) ∙ all

module _ {X : Type 0} (L : Layout X) (filters project : List Term) (params : Row) (p : X → Bool) (shown : X → Row)
    (tests : (x : X) → list_all (holds (params ∷ L.to_row x ∷ [])) filters ≡ p x)
    (shows : (x : X) → eval_all project (params ∷ L.to_row x ∷ []) ≡ shown x) where
  pub selects : (db : Trees) (xs : List X) (rows : List Row) → Holds L db xs → IsAnswer (select_query L.tree filters project) (overlay db []) params rows → rows ≡ map shown (filter p xs)
  selects = limits L filters project no_limit params p shown tests shows

-- a key of ORDER BY that may be NULL
pub value_cmp-maybe_int : (a b : Option ℤ) → value_cmp (or_null Int a) (or_null Int b) ≡ nulls_first int_cmp a b
value_cmp-maybe_int = value_cmp-or_null Int int_cmp (λ a. value_cmp-Null (Int a)) value_cmp-Int

-- two rows with different keys are no tie
untied : {X : Type 0} (L : Layout X) (by : List (X → X → Ordering)) (x y : X) → int_cmp (L.key x) (L.key y) ≡ Less → IsNoTie (by_then_key L by x y)
untied L [] x y h = no_tie h
untied L (cmp ∷ more) x y h = no_tie_after (cmp x y) (untied L more x y h)

module _ {X : Type 0} (L : Layout X) (filters project columns : List Term) (limit : Term) (params : Row) (p : X → Bool) (shown : X → Row) (by : List (X → X → Ordering))
    (tests : (x : X) → list_all (holds (params ∷ L.to_row x ∷ [])) filters ≡ p x)
    (shows : (x : X) → eval_all project (params ∷ L.to_row x ∷ []) ≡ shown x)
    (orders : (x y : X) → output_cmp (sorted_query L.tree filters project columns limit) (output (sorted_query L.tree filters project columns limit) (params ∷ L.to_row x ∷ []))
    (output (sorted_query L.tree filters project columns limit) (params ∷ L.to_row y ∷ [])) ≡ by_then_key L by x y) where
  -- the rows in the order of some columns
  pub sorts : (db : Trees) (xs : List X) (rows : List Row) → Holds L db xs → IsAnswer (sorted_query L.tree filters project columns limit) (overlay db []) params rows
      → rows ≡ page (sorted_query L.tree filters project columns limit) params (map shown (sort_by (by_then_key L by) (filter p xs)))
  sorts db xs rows h answer =
      let q = sorted_query L.tree filters project columns limit in
      let stored : overlay db [] L.tree ≡ map L.to_row xs = overlay_none db L.tree ∙ h.rows in
      let source = last_table (overlay db []) L.tree L.to_row L.key xs stored h.keyed (at_end (overlay db [])) in
      let all = answer_sorted q (overlay db []) params source p tests (λ r. r) shown shows refl refl (by_then_key L by) (untied L by) orders rows answer in
      sym (map-id rows) ∙ all
